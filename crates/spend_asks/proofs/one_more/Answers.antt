-- `spend_asks::one_more` meets its contract. Assumes nothing.
use Rattle.spend_asks.proofs.one_more.Goals as goal

pub returns-then-more : goal.returns-then-more
returns-then-more c log = rw c.if-more.true (c.sum.ensures log)

pub returns : goal.returns
returns c log = rw c.if-more.false (c.written.ensures log)
