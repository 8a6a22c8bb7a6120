-- `spend_lines::put_lines` meets its contract: the lines still to come are laid after those before them. Assumes nothing.
use Prim.Native.Nat.{◌+◌, ◌-◌}
use Rattle.script_leaves.proofs.Laws.{Coming}
use Rattle.spend_lines.specs.Lines.{lines_of}
use Rattle.spend_lines.proofs.put_lines.Given as goal

abbrev pub invariant-loop-i : goal.invariant-loop-i
invariant-loop-i l = Coming l.initial.out 0 (lines_of l.reports l.from l.count) l.out l.at (lines_of l.reports (l.from + l.i) (l.count - l.i))
