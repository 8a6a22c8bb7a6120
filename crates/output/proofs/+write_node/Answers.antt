-- `output::write_node` meets its contract: it goes over the children of a node with what is still to come. Assumes nothing.
use Rattle.std.proofs.Common.{arith, refl}
use Rattle.output.proofs.Lengths.{arity-at-few}
use Rattle.output.proofs.Nodes.{write-starts, child-less, child-room, record-number, write-goes-on, record-room, records-few, write-ends}
use Rattle.output.proofs.+write_node.Goals as goal

pub loop-j-init : goal.loop-j-init
loop-j-init t c = write-starts c.requires c.arity_of-arity.ensures _ refl

pub write_node-end-requires : goal.write_node-end-requires
write_node-end-requires t c = (
  omega (arith, child-less c.requires c.arity_of-arity.ensures c.loop-j.invariant _ c.loop-j-test.true c.child_of-c.ensures, c.decreases),
  child-room c.requires c.arity_of-arity.ensures c.loop-j.invariant _ c.loop-j-test.true c.child_of-c.ensures,
)

pub overflow_sub-row : goal.overflow_sub-row
overflow_sub-row t c =
    omega (arith, (record-number c.requires c.arity_of-arity.ensures c.loop-j.invariant _ c.loop-j-test.true c.child_of-c.ensures _ _ c.write_node-end.ensures).0)

pub overflow_cast-row : goal.overflow_cast-row
overflow_cast-row t c =
    omega (arith, (record-number c.requires c.arity_of-arity.ensures c.loop-j.invariant _ c.loop-j-test.true c.child_of-c.ensures _ _ c.write_node-end.ensures).1)

pub offset_bounds-row-j : goal.offset_bounds-row-j
offset_bounds-row-j t c =
    omega (arith, c.loop-j-test.true, c.loop-j.invariant.arity, arity-at-few c.args.pol.now c.args.work.now c.requires.readable.good c.args.e)

pub bounds-row-j : goal.bounds-row-j
bounds-row-j t c =
    omega (arith, c.loop-j-test.true, c.loop-j.invariant.arity, arity-at-few c.args.pol.now c.args.work.now c.requires.readable.good c.args.e)

pub loop-j-preserved : goal.loop-j-preserved
loop-j-preserved t c =
    write-goes-on c.requires c.arity_of-arity.ensures c.loop-j.invariant _ c.loop-j-test.true c.child_of-c.ensures _ _ c.write_node-end.ensures
    (omega (arith, c.loop-j.invariant.arity, arity-at-few c.args.pol.now c.args.work.now c.requires.readable.good c.args.e))

pub put_record-last-requires : goal.put_record-last-requires
put_record-last-requires t c =
    record {
      readable = c.requires.readable;
      sound = c.requires.sound;
      fits = record-room c.requires c.arity_of-arity.ensures c.loop-j.invariant c.loop-j-test.false;
    }

pub overflow_add-result : goal.overflow_add-result
overflow_add-result t c = omega (arith, records-few c.requires c.arity_of-arity.ensures c.loop-j.invariant c.loop-j-test.false)

pub returns : goal.returns
returns t c =
    write-ends c.requires c.arity_of-arity.ensures c.loop-j.invariant c.loop-j-test.false _ _ c.put_record-last.ensures
