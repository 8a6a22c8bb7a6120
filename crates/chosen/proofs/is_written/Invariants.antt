-- `chosen::is_written` meets its contract: the bytes behind the records read decide. Assumes nothing.
use Prim.Native.Nat.{◌-◌}
use lib.ListN.{take}
use Rattle.chosen.specs.Form.{room_in}
use Rattle.chosen.proofs.Records.{Progress}
use Rattle.chosen.proofs.is_written.Given as goal

abbrev pub invariant-loop-at : goal.invariant-loop-at
invariant-loop-at l = Progress (take l.n (room_in l.work)) l.roots l.top l.at l.own

abbrev pub decreases-loop-at : goal.decreases-loop-at
decreases-loop-at l = l.n - l.at
