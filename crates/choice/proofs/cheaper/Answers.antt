-- `choice::cheaper` meets its contract. Assumes nothing.
use Rattle.definition.specs.Tables.{probs}
use Rattle.choice.proofs.Choosing.{cheaper-first, cheaper-second}
use Rattle.choice.proofs.cheaper.Goals as goal

pub returns-then-at_most : goal.returns-then-at_most
returns-then-at_most c = cheaper-first c.args.work.now (probs c.args.sat c.args.dissat) c.args.e _ c.in-Some.is c.price-own.ensures c.price-other.ensures
    c.at_most.ensures c.if-at_most.true

pub returns-else-at_most : goal.returns-else-at_most
returns-else-at_most c = cheaper-second c.args.work.now (probs c.args.sat c.args.dissat) c.args.e _ c.in-Some.is c.price-own.ensures c.price-other.ensures
    c.at_most.ensures c.if-at_most.false
