-- `output::put_children` meets its contract: those still to come are written after those before them. Assumes nothing.
use Rattle.output.proofs.Placing.{RowInv}
use Rattle.output.proofs.put_children.Given as goal

abbrev pub invariant-loop-j : goal.invariant-loop-j
invariant-loop-j l = RowInv 2 l.children l.initial.out l.at l.out l.j
