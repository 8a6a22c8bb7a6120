-- `index_entry::give_places` meets its contract. Assumes nothing.
use mathlib.Core.Path.{refl}
use Rattle.index_entry.proofs.Placing.{give-begins, small-place, child-at, few-children, room-here, children-here, give-more, give-ends}
use native.Mathlib.Omega.{arith}
use Rattle.index_entry.proofs.give_places.Goals as goal

pub node_at-node-requires : goal.node_at-node-requires
node_at-node-requires c = c.requires.placed.placed c.args.i (omega arith)

pub first_at-at-requires : goal.first_at-at-requires
first_at-at-requires c = (c.requires.room, omega (arith, c.requires.inside, c.requires.rows.few))

pub loop-j-init : goal.loop-j-init
loop-j-init c = (give-begins _ _ _, omega arith)

pub offset_bounds-children-place : goal.offset_bounds-children-place
offset_bounds-children-place c = omega (arith, c.place.ensures, small-place c.requires c.node_at-node.ensures c.loop-j.j c.loop-j-test.true)

pub bounds-children-place : goal.bounds-children-place
bounds-children-place c = omega (arith, c.place.ensures, small-place c.requires c.node_at-node.ensures c.loop-j.j c.loop-j-test.true)

pub ahead-before-requires : goal.ahead-before-requires
ahead-before-requires c = children-here c.requires c.node_at-node.ensures c.loop-j.invariant.0 c.loop-j-test.true

pub overflow_add-work : goal.overflow_add-work
overflow_add-work c = omega (arith, c.first_at-at.ensures, c.requires.small, c.ahead-before.ensures.1, few-children c.requires c.node_at-node.ensures, c.loop-j-test.true)

pub overflow_add-work-in-loop-j : goal.overflow_add-work-in-loop-j
overflow_add-work-in-loop-j c = omega (arith, child-at c.requires c.node_at-node.ensures c.loop-j.j _ c.place.ensures c.loop-j-test.true)

pub offset_bounds-work-child : goal.offset_bounds-work-child
offset_bounds-work-child c = omega (arith, child-at c.requires c.node_at-node.ensures c.loop-j.j _ c.place.ensures c.loop-j-test.true)

pub bounds-work-child : goal.bounds-work-child
bounds-work-child c = omega (
  arith,
  child-at c.requires c.node_at-node.ensures c.loop-j.j _ c.place.ensures c.loop-j-test.true,
  room-here c.requires c.node_at-node.ensures c.loop-j.invariant.0
      c.loop-j-test.true,
)

pub loop-j-preserved : goal.loop-j-preserved
loop-j-preserved c = (
  give-more c.requires c.node_at-node.ensures c.loop-j.invariant.0 c.loop-j-test.true c.first_at-at.ensures c.place.ensures refl c.ahead-before.ensures.0 refl,
  omega
      (arith, c.loop-j-test.true),
)

pub shape_of-work : goal.shape_of-work
shape_of-work c = c.loop-j.invariant.0.room

pub returns : goal.returns
returns c = give-ends c.requires c.node_at-node.ensures c.loop-j.invariant.0 c.loop-j.invariant.1 c.loop-j-test.false
