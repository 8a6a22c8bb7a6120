-- `script_entry::lay_root` meets its contract: the first run measures and writes nothing, the second writes what fits. Assumes nothing.
use Rattle.script_leaves.specs.Lent.{lent}
use Rattle.walk.specs.TreeRecords.{fragment_at}
use Rattle.script_entry.proofs.Runs.{fits, too_long}
use Rattle.script_entry.proofs.lay_root.Goals as goal

pub returns-then-out-n : goal.returns-then-out-n
returns-then-out-n c = let t = lent c.args.tables in
    too_long c.args.context t (fragment_at c.args.tree.now c.args.root) c.args.out.now c.lay_record-n.ensures c.if-out-n.true

pub returns : goal.returns
returns c = let t = lent c.args.tables in
    fits c.args.context t (fragment_at c.args.tree.now c.args.root) c.args.out.now c.lay_record-n.ensures c.if-out-n.false c.lay_record.ensures
