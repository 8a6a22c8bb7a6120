-- `spend_entry::report_all` meets its contract: those passed are reported, and the others are still to come. Assumes nothing.
use Prim.Native.Nat.{◌-◌, ◌≤◌}
use lib.ListN.{length}
use Rattle.walk.specs.TreeRecords.{fragment_at}
use Rattle.spend_log.specs.Places.{tables_in}
use Rattle.spend_stack.specs.Memory.{Keeps}
use Rattle.spend_entry.proofs.Following.{ToCome}
use Rattle.spend_entry.proofs.report_all.Given as goal

abbrev pub invariant-loop-to : goal.invariant-loop-to
invariant-loop-to l = ToCome l.context (tables_in l.log l.head) (fragment_at l.tree l.root) l.log l.head.entries l.initial.out l.out l.to l.i
    × Keeps l.initial.work l.work × (l.i ≤ l.to)

abbrev pub decreases-loop-to : goal.decreases-loop-to
decreases-loop-to l = length l.log - l.to
