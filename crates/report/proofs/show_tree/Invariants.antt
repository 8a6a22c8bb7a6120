-- The loop of `report::show_tree` shows records that lie in the tree. Assumes nothing.
use Rattle.std.proofs.Common.{◌-◌, ◌≤◌, length}
use Rattle.report.proofs.show_tree.Given as goal

abbrev pub invariant-loop-at : goal.invariant-loop-at
invariant-loop-at g l = (l.number ≤ l.at) × (l.at ≤ length l.fn.tree)

abbrev pub decreases-loop-at : goal.decreases-loop-at
decreases-loop-at g l = length l.fn.tree - l.at
