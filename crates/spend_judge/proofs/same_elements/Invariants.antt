-- `spend_judge::same_elements` meets its contract: those passed are the same, and the others are still to come. Assumes nothing.
use Prim.Native.Nat.{◌-◌}
use Rattle.spend_judge.proofs.Loops.{Elements, SameToCome}
use Rattle.spend_judge.proofs.same_elements.Given as goal

abbrev pub invariant-loop-i : goal.invariant-loop-i
invariant-loop-i l = Elements l.log l.at l.n l.to l.i × SameToCome l.log l.main l.at l.n l.to l.i
