-- `pairing::count` meets its contract: no product passes 2,097,152. Assumes nothing.
use native.Mathlib.Omega.{arith}
use Rattle.pairing.proofs.Placed.{product_small, triple-product-small, triples-counted, pairs-counted}
use Rattle.pairing.proofs.count.Goals as goal

pub length_at-requires : goal.length_at-requires
length_at-requires c = (c.requires.tables, c.requires.first)

pub length_at-requires-2 : goal.length_at-requires-2
length_at-requires-2 c = (c.requires.tables, c.requires.second)

pub overflow_mul-pairs : goal.overflow_mul-pairs
overflow_mul-pairs c = record { fits = omega (arith, product_small c.length_at.ensures.1 c.length_at-2.ensures.1) }

pub length_at-requires-3 : goal.length_at-requires-3
length_at-requires-3 c = (c.requires.tables, c.requires.third)

pub overflow_mul-triples : goal.overflow_mul-triples
overflow_mul-triples c = record { fits = omega (arith, triple-product-small c.length_at.ensures.1 c.length_at-2.ensures.1 c.length_at-3.ensures.1) }

pub returns-then-a-eq-AND_OR : goal.returns-then-a-eq-AND_OR
returns-then-a-eq-AND_OR c = triples-counted c.args.work.now c.args.slots c.args.a c.if-a-eq-AND_OR.true c.length_at.ensures.0 c.length_at-2.ensures.0 c.length_at-3.ensures.0

pub returns : goal.returns
returns c = pairs-counted c.args.work.now c.args.slots c.args.a c.if-a-eq-AND_OR.false c.length_at.ensures.0 c.length_at-2.ensures.0
