-- `choice::price` meets its contract. Assumes nothing.
use Rattle.choice.proofs.Choosing.{node-small, price-is}
use Rattle.choice.proofs.price.Goals as goal

pub cost_at-requires : goal.cost_at-requires
cost_at-requires c = node-small c.args.work.now c.args.e c.node.ensures

pub returns : goal.returns
returns c = price-is c.args.work.now c.args.e c.args.sat c.args.dissat c.node.ensures c.cost_at.ensures
