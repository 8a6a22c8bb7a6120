-- `output::named_child` meets its contract: by whether the children are a row. Assumes nothing.
use Rattle.output.proofs.Children.{row_read, first_read, second-read, third-read}
use Rattle.output.proofs.named_child.Goals as goal

pub returns-then-x-eq-THRESH : goal.returns-then-x-eq-THRESH
returns-then-x-eq-THRESH c = row_read c.args.work.now c.args.e _ c.node-x.ensures c.args.j _ c.if-x-eq-THRESH.true c.row_child.ensures

pub returns-in-0 : goal.returns-in-0
returns-in-0 c = first_read c.args.work.now c.args.e _ c.node-x.ensures c.args.j c.if-x-eq-THRESH.false c.in-0.is

pub returns-in-1 : goal.returns-in-1
returns-in-1 c = second-read c.args.work.now c.args.e _ c.node-x.ensures c.args.j c.if-x-eq-THRESH.false c.in-1.is

pub returns-in_default : goal.returns-in_default
returns-in_default c = third-read c.args.work.now c.args.e _ c.node-x.ensures c.args.j c.if-x-eq-THRESH.false c.in_default.in_default-own.rest.0.1 c.in_default.in_default-own.rest.1
