-- `nodes::row_child` meets its contract: a row has sixteen places. Assumes nothing.
use Rattle.nodes.proofs.Stored.{child-is, no-child}
use Rattle.nodes.proofs.row_child.Goals as goal

pub returns-then-j-lt16 : goal.returns-then-j-lt16
returns-then-j-lt16 c = child-is c.args.work.now c.args.row c.args.j c.if-j-lt16.true c.digit.ensures

pub returns : goal.returns
returns c = no-child c.args.work.now c.args.row c.args.j c.if-j-lt16.false
