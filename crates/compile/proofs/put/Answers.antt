-- `compile::put` meets its contract: what is written is what fits. Assumes nothing.
use Rattle.compile.proofs.Putting.{puts, puts-nothing}
use Rattle.compile.proofs.put.Goals as goal

pub returns : goal.returns
returns c = puts c.requires c.args.out.now _ c.write.ensures _ c.in-Some.is c.price-price.ensures c.bits.ensures c.never.ensures c.count.ensures

pub returns-in_default : goal.returns-in_default
returns-in_default c = puts-nothing c.requires c.args.out.now _ c.write.ensures c.in_default.is
