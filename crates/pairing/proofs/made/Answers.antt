-- `pairing::made` meets its contract. Assumes nothing.
use borrow.Author.Tests.{eq-eqb, ne_eqb}
use Rattle.pairing.proofs.made.Goals as goal

pub triple_at-requires : goal.triple_at-requires
triple_at-requires c = (c.requires.0, (eq-eqb _ 55 c.if-a-eq-AND_OR.true, c.requires.1))

pub pair_at-requires : goal.pair_at-requires
pair_at-requires c = (c.requires.0, (ne_eqb _ 55 c.if-a-eq-AND_OR.false, c.requires.1))
