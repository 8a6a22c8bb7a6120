-- `output::put_keys` meets its contract: those still to come are written after those before them. Assumes nothing.
use Rattle.policies.specs.Array.{policy_at}
use Rattle.nodes.specs.Views.{keys_of}
use Rattle.output.proofs.Placing.{RowInv}
use Rattle.output.proofs.put_keys.Given as goal

abbrev pub invariant-loop-j : goal.invariant-loop-j
invariant-loop-j l = RowInv 8 (keys_of (policy_at l.pol l.r)) l.initial.out l.at l.out l.j
