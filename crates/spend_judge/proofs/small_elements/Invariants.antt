-- `spend_judge::small_elements` meets its contract: those passed are small, and the others are still to come. Assumes nothing.
use Prim.Native.Nat.{◌-◌}
use Rattle.spend_judge.proofs.Loops.{Elements, SmallToCome}
use Rattle.spend_judge.proofs.small_elements.Given as goal

abbrev pub invariant-loop-i : goal.invariant-loop-i
invariant-loop-i l = Elements l.log l.at l.n l.to l.i × SmallToCome l.log l.at l.n l.to l.i
