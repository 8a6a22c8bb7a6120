-- `output::put_children` meets its contract: those still to come are written after those before them. Assumes nothing.
use Rattle.output.proofs.Placing.{row-goes-on, row_ends}
use Rattle.output.proofs.put_children.Goals as goal

pub loop-j-preserved : goal.loop-j-preserved
loop-j-preserved c = row-goes-on 2 c.args.children.now c.args.out.now c.args.at c.loop-j.invariant _ c.loop-j-test.true c.put_2.ensures

pub returns : goal.returns
returns c = row_ends 2 c.args.children.now c.args.out.now c.args.at c.loop-j.invariant c.loop-j-test.false
