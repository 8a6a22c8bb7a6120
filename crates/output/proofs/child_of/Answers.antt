-- `output::child_of` meets its contract: a number that is not below the node's own stands for False. Assumes nothing.
use Rattle.output.proofs.Children.{child-before, child-false}
use Rattle.output.proofs.child_of.Goals as goal

pub returns-then-named-e : goal.returns-then-named-e
returns-then-named-e c = child-before c.args.work.now c.args.e c.args.j _ c.named_child-named.ensures c.if-named-e.true

pub returns : goal.returns
returns c = child-false c.args.work.now c.args.e c.args.j _ c.named_child-named.ensures c.if-named-e.false
