-- `oracle_replay::replay` meets its contract: the counts grow line by line. Assumes nothing.
use Prim.Native.Nat.{◌-◌}
use lib.ListN.{length}
use Rattle.oracle_verdicts.proofs.Tallies.{Going, Kept}
use Rattle.oracle_replay.proofs.replay.Given as goal

abbrev pub invariant-loop-t : goal.invariant-loop-t
invariant-loop-t g l = Going l.text (length l.initial.out) l.t l.at l.n × Kept l.initial.policy l.initial.stored l.initial.out l.initial.work l.policy l.stored l.out l.work

abbrev pub decreases-loop-t : goal.decreases-loop-t
decreases-loop-t g l = length l.text - l.at
