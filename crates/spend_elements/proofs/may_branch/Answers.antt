-- `spend_elements::may_branch` meets its contract. Assumes nothing.
use borrow.Author.Tests.{eq-eqb}
use mathlib.Core.Path.{sym, ◌∙◌}
use Rattle.spend_elements.proofs.Scans.{may-empty, may-other}
use Rattle.spend_elements.proofs.may_branch.Goals as goal

pub returns-then-length_of-eq0 : goal.returns-then-length_of-eq0
returns-then-length_of-eq0 c = rw c.in-Tap.is (eq-eqb _ _ c.if-length_of-eq0.true ∙ sym (may-empty _ (sym c.length_of.ensures ∙ c.if-length_of-eq0.true)))

pub returns-else-length_of-eq0 : goal.returns-else-length_of-eq0
returns-else-length_of-eq0 c = rw c.in-Tap.is (c.is_one.ensures ∙ sym (may-other _ (λ e. c.if-length_of-eq0.false (c.length_of.ensures ∙ e))))
