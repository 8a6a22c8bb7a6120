-- `differ::same_keys` meets its contract: the keys passed are the same, and the others are still to come. Assumes nothing.
use Rattle.differ.proofs.Sides.{keys-begin, keys-more, keys-apart, keys-done}
use Rattle.differ.proofs.same_keys.Goals as goal

pub loop-j-init : goal.loop-j-init
loop-j-init c = keys-begin c.args.left.now c.args.right.now c.args.count

pub returns-then-x-y : goal.returns-then-x-y
returns-then-x-y c = keys-apart c.args.left.now c.args.right.now c.args.count c.loop-j.j c.loop-j-test.true c.key_at-x.ensures c.key_at-y.ensures
    c.loop-j.invariant c.if-x-y.true

pub loop-j-preserved : goal.loop-j-preserved
loop-j-preserved c = keys-more c.args.left.now c.args.right.now c.args.count c.loop-j.j c.loop-j-test.true c.key_at-x.ensures c.key_at-y.ensures
    c.loop-j.invariant c.if-x-y.false

pub returns : goal.returns
returns c = keys-done c.args.left.now c.args.right.now c.args.count c.loop-j.j c.loop-j-test.false c.loop-j.invariant
