-- `moving::measure` meets its contract: what is still to come is told with what was told. Assumes nothing.
use native.Mathlib.Omega.{arith}
use Rattle.moving.proofs.Records.{measure-starts, end-inside, one-few, measure-stops, measure-goes-on, measure-ends}
use Rattle.moving.proofs.measure.Goals as goal

pub loop-i-init : goal.loop-i-init
loop-i-init c = measure-starts c.args.form c.args.policy.now

pub returns : goal.returns
returns c = measure-ends c.args.form c.args.policy.now c.loop-i.invariant c.loop-i-test.false

pub overflow_add-bytes : goal.overflow_add-bytes
overflow_add-bytes c = let ends = end-inside c.args.form c.args.policy.now c.loop-i.invariant _ c.record_end-end.ensures in
    omega (arith, c.loop-i.invariant.small, c.loop-i.invariant.few, ends, one-few c.args.form c.args.policy.now c.loop-i.invariant _ c.record_end-end.ensures _ c.moved_length-bytes.ensures)

pub returns-then-too_large : goal.returns-then-too_large
returns-then-too_large c = measure-stops c.args.form c.args.policy.now c.loop-i.invariant (omega (arith, c.loop-i-test.true)) _ c.record_end-end.ensures c.too_large.ensures c.if-too_large.true

pub loop-i-preserved : goal.loop-i-preserved
loop-i-preserved c = measure-goes-on c.args.form c.args.policy.now c.loop-i.invariant (omega (arith, c.loop-i-test.true)) _ c.record_end-end.ensures c.too_large.ensures c.if-too_large.false
    _ c.moved_length-bytes.ensures
