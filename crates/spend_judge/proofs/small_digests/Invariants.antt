-- `spend_judge::small_digests` meets its contract: those passed are small, and the others are still to come. Assumes nothing.
use Prim.Native.Nat.{◌-◌}
use Rattle.spend_judge.proofs.Loops.{Outcomes, DigestsToCome}
use Rattle.spend_judge.proofs.small_digests.Given as goal

abbrev pub invariant-loop-i : goal.invariant-loop-i
invariant-loop-i l = Outcomes l.log l.at l.n l.to l.i × DigestsToCome l.log l.at l.n l.to l.i
