-- `spend_log::count_entries` meets its contract: the entries passed, and those still to come. Assumes nothing.
use Prim.Native.Nat.{◌-◌, ◌≤◌}
use mathlib.Core.Path.{◌≡◌}
use lib.ListN.{length}
use Rattle.spend_log.proofs.Counting.{counting}
use Rattle.spend_log.proofs.count_entries.Given as goal

abbrev pub invariant-loop-to : goal.invariant-loop-to
invariant-loop-to l = (l.to ≤ length l.log) × (l.count ≤ l.to) × (counting l.log l.to l.count ≡ counting l.log l.at 0)

abbrev pub decreases-loop-to : goal.decreases-loop-to
decreases-loop-to l = length l.log - l.to
