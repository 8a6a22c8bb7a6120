-- The loop of `report::differences::record_start` goes one record on at each turn. Assumes nothing.
use Rattle.std.proofs.Common.{◌≤◌, ◌≡◌}
use Rattle.walk.specs.TreeRecords.{start_of}
use Rattle.report.proofs.differences.record_start.Given as goal

abbrev pub invariant-loop-n : goal.invariant-loop-n
invariant-loop-n l = (l.n ≤ l.fn.i) × (l.at ≡ start_of l.fn.tree l.n)
