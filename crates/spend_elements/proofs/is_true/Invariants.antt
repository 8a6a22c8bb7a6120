-- `spend_elements::is_true` meets its contract: no byte passed tells, and the others are still to come. Assumes nothing.
use Prim.Native.Nat.{◌≤◌}
use Rattle.spend_elements.specs.Elements.{bytes_in}
use Rattle.spend_elements.proofs.Scans.{TrueToCome}
use Rattle.spend_elements.proofs.is_true.Given as goal

abbrev pub invariant-loop-j : goal.invariant-loop-j
invariant-loop-j l = TrueToCome (bytes_in l.log l.e) l.j
