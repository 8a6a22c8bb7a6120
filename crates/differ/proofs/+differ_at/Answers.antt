-- `differ::differ_at` meets its contract. What falls is the left record's number: children come before their parents. Assumes nothing.
use mathlib.Core.Path.{refl}
use native.Mathlib.Omega.{arith}
use Rattle.differ.proofs.Telling.{keeps-length}
use Rattle.differ.proofs.Walking.{below, few-left, less-left, child-walks, has_room, told_here, differ-begins, differ-more, differ-ends}
use Rattle.differ.proofs.+differ_at.Goals as goal

pub same_at-same-requires : goal.same_at-same-requires
same_at-same-requires t c =
    (c.requires.placed_left.placed c.args.i (omega arith), c.requires.placed_right.placed c.args.j (omega arith))

pub node_at-x-requires : goal.node_at-x-requires
node_at-x-requires t c =
    c.requires.placed_left.placed c.args.i (omega arith)

pub node_at-y-requires : goal.node_at-y-requires
node_at-y-requires t c =
    c.requires.placed_right.placed c.args.j (omega arith)

pub loop-c-init : goal.loop-c-init
loop-c-init t c =
    differ-begins c.requires c.node_at-x.ensures c.node_at-y.ensures c.same_at-same.ensures c.if-same.true c.args.out.now

pub offset_bounds-xs-c : goal.offset_bounds-xs-c
offset_bounds-xs-c t c =
    omega (arith, few-left c.requires c.node_at-x.ensures c.node_at-y.ensures c.same_at-same.ensures c.if-same.true, c.loop-c-test.true)

pub bounds-xs-c : goal.bounds-xs-c
bounds-xs-c t c =
    omega (arith, few-left c.requires c.node_at-x.ensures c.node_at-y.ensures c.same_at-same.ensures c.if-same.true, c.loop-c-test.true)

pub offset_bounds-ys-c : goal.offset_bounds-ys-c
offset_bounds-ys-c t c =
    omega (arith, few-left c.requires c.node_at-x.ensures c.node_at-y.ensures c.same_at-same.ensures c.if-same.true, c.loop-c-test.true)

pub bounds-ys-c : goal.bounds-ys-c
bounds-ys-c t c =
    omega (arith, few-left c.requires c.node_at-x.ensures c.node_at-y.ensures c.same_at-same.ensures c.if-same.true, c.loop-c-test.true)

pub differ_at-to-requires : goal.differ_at-to-requires
differ_at-to-requires t c =
    (below (less-left c.requires c.node_at-x.ensures c.node_at-y.ensures c.same_at-same.ensures c.if-same.true c.loop-c.invariant c.loop-c-test.true) c.decreases, child-walks c.requires c.node_at-x.ensures c.node_at-y.ensures c.same_at-same.ensures c.if-same.true c.loop-c.invariant c.loop-c-test.true)

pub loop-c-preserved : goal.loop-c-preserved
loop-c-preserved t c =
    differ-more c.requires c.node_at-x.ensures c.node_at-y.ensures c.same_at-same.ensures c.if-same.true c.loop-c.invariant c.loop-c-test.true c.differ_at-to.ensures

pub returns-then-same : goal.returns-then-same
returns-then-same t c =
    differ-ends c.requires c.node_at-x.ensures c.node_at-y.ensures c.same_at-same.ensures c.if-same.true c.loop-c.invariant c.loop-c-test.false refl

pub tell-requires : goal.tell-requires
tell-requires t c =
    (has_room c.requires, c.requires.small_left, c.requires.small_right)

pub shape_of-out : goal.shape_of-out
shape_of-out t c =
    keeps-length c.tell.ensures

pub returns : goal.returns
returns t c =
    told_here c.requires c.same_at-same.ensures c.if-same.false c.tell.ensures
