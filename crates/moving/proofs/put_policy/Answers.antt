-- `moving::put_policy` meets its contract: what is still to come is written after what was written. Assumes nothing.
use native.Mathlib.Omega.{arith}
use Rattle.moving.proofs.Records.{write-starts, part-inside, has_room, write-goes-on, write-ends}
use Rattle.moving.proofs.put_policy.Goals as goal

pub loop-i-init : goal.loop-i-init
loop-i-init c = write-starts c.args.form c.args.policy.now c.args.out.now c.requires

pub put_moved-to-requires : goal.put_moved-to-requires
put_moved-to-requires c = has_room c.args.form c.args.policy.now c.args.out.now c.loop-i.invariant _ c.record_end-end.ensures (omega (arith, c.loop-i-test.true))

pub loop-i-preserved : goal.loop-i-preserved
loop-i-preserved c = write-goes-on c.args.form c.args.policy.now c.args.out.now c.loop-i.invariant _ c.record_end-end.ensures (omega (arith, c.loop-i-test.true)) _ _ c.put_moved-to.ensures.value
    c.put_moved-to.ensures.out_after

pub shape_of-out : goal.shape_of-out
shape_of-out c = c.loop-i.invariant.long

pub returns : goal.returns
returns c = write-ends c.args.form c.args.policy.now c.args.out.now c.loop-i.invariant c.loop-i-test.false
