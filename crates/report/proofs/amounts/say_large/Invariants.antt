-- The loop of `report::amounts::say_large` ends: each turn raises the power, up to 400. Assumes nothing.
use Rattle.std.proofs.Common.{◌-◌, ◌≤◌}
use Rattle.report.proofs.amounts.say_large.Given as goal

abbrev pub invariant-loop-power : goal.invariant-loop-power
invariant-loop-power g l = l.power ≤ 400

abbrev pub decreases-loop-power : goal.decreases-loop-power
decreases-loop-power g l = 400 - l.power
