-- `script_entry::lay_record` meets its contract. What falls is the record's number: children come before their parents. Assumes nothing.
use Rattle.script_entry.proofs.Laying.{none_yet, below, ready-below, small-place, child-less, leaf-laid, all_laid, child-laid}
use native.Mathlib.Omega.{arith}
use lib.ListN.{get_or}
use Rattle.script_leaves.specs.Lent.{lent}
use Rattle.walk.specs.TreeRecords.{fragment_at}
use Rattle.script_entry.specs.Pieces.{up_to}
use Rattle.script_entry.proofs.+lay_record.Goals as goal

pub returns-then-n-eq0 : goal.returns-then-n-eq0
returns-then-n-eq0 t c = leaf-laid c.requires c.node_at-node.ensures c.args.verified c.if-n-eq0.true c.lay_leaf_at.ensures

pub loop-j-init : goal.loop-j-init
unfolding up_to
loop-j-init t c = (none_yet c.put_front-to.ensures, omega arith)

pub returns : goal.returns
returns t c =
    all_laid c.requires c.node_at-node.ensures c.args.verified c.if-n-eq0.false c.loop-j.invariant.1 c.loop-j-test.false c.put_front-to.ensures
    c.loop-j.invariant.0 c.put_last.ensures

pub offset_bounds-children-place : goal.offset_bounds-children-place
offset_bounds-children-place t c = omega (arith, small-place c.requires c.node_at-node.ensures c.loop-j.j _ c.place.ensures c.loop-j-test.true)

pub bounds-children-place : goal.bounds-children-place
bounds-children-place t c = small-place c.requires c.node_at-node.ensures c.loop-j.j _ c.place.ensures c.loop-j-test.true

pub lay_record-end-requires : goal.lay_record-end-requires
lay_record-end-requires t c =
    let less = child-less c.requires c.node_at-node.ensures c.loop-j.j _ c.place.ensures c.loop-j-test.true in
    (below less c.decreases, ready-below c.requires _ less)

pub loop-j-preserved : goal.loop-j-preserved
loop-j-preserved t c =
    let its-tables = lent c.args.tables in (
      child-laid c.args.context its-tables c.node_at-node.result.kind c.args.verified
          (λ x. fragment_at c.args.tree.now (get_or c.node_at-node.result.children x 0)) c.loop-j.j c.loop-j.invariant.0 c.place.ensures
          c.child_verified.ensures c.lay_record-end.ensures c.put_after-to.ensures,
      omega (arith, c.loop-j-test.true),
    )
