-- `trees::check_records` meets its contract: the bytes behind the records read decide, and the count of free slots is kept. Assumes nothing.
use Prim.Native.Nat.{◌-◌}
use lib.ListN.{length}
use Rattle.trees.proofs.LoopLaws.{Progress}
use Rattle.trees.proofs.check_records.Given as goal

abbrev pub invariant-loop-at : goal.invariant-loop-at
invariant-loop-at l = Progress l.context l.tree l.work l.at l.read l.free

abbrev pub decreases-loop-at : goal.decreases-loop-at
decreases-loop-at l = length l.tree - l.at
