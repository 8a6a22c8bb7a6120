-- `spends::show_lines` is safe: blocks end where the reports do. Assumes nothing.
use Prim.Native.Nat.{◌-◌, ◌≤◌}
use Rattle.spends.proofs.showing.show_lines.Given as goal

abbrev pub invariant-loop-at : goal.invariant-loop-at
invariant-loop-at g l = l.at ≤ l.n

abbrev pub decreases-loop-at : goal.decreases-loop-at
decreases-loop-at g l = l.n - l.at
