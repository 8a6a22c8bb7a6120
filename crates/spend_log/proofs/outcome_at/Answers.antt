-- `spend_log::outcome_at` meets its contract: the byte in front says whether a digest follows. Assumes nothing.
use borrow.Author.Tests.{eq-eqb, ne_eqb}
use Rattle.spend_log.proofs.outcome_at.Goals as goal

pub returns-then-sort-eq-DIGEST : goal.returns-then-sort-eq-DIGEST
returns-then-sort-eq-DIGEST c = simp (eq-eqb _ _ c.if-sort-eq-DIGEST.true, c.element_at-digest.ensures)

pub returns : goal.returns
returns c = simp (ne_eqb _ _ c.if-sort-eq-DIGEST.false)
