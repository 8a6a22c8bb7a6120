-- `choice::thresh_of` meets its contract. Assumes nothing.
use lib.ListN.{length}
use Rattle.choice.proofs.Threshes.{exts-children, of-valid, of_other}
use Rattle.choice.proofs.thresh_of.Goals as goal

pub threshold-ext-requires : goal.threshold-ext-requires
threshold-ext-requires c = (c.requires.1.0, (c.requires.1.1.0, exts-children c.requires.0 c.args.row.now c.requires.1.1.1 c.exts_of.ensures))

pub returns-then-from_ast : goal.returns-then-from_ast
returns-then-from_ast c = of-valid c.args.work.now c.args.r c.args.k (length c.args.row.now) c.args.row.now c.args.context _ c.exts_of.ensures c.threshold-ext.ensures
    c.from_ast.ensures c.if-from_ast.true c.thresh_with.ensures

pub returns : goal.returns
returns c = of_other c.args.work.now c.args.r c.args.k (length c.args.row.now) c.args.row.now c.args.context _ c.exts_of.ensures c.threshold-ext.ensures
    c.from_ast.ensures c.if-from_ast.false
