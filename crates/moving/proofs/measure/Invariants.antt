-- `moving::measure` meets its contract: what is still to come is told with what was told. Assumes nothing.
use Rattle.moving.proofs.Records.{MeasureInv}
use Rattle.moving.proofs.measure.Given as goal

abbrev pub invariant-loop-i : goal.invariant-loop-i
invariant-loop-i l = MeasureInv l.form l.policy l.bytes l.at l.i
