-- `spend_elements::is_one` meets its contract. Assumes nothing.
use mathlib.Core.Path.{sym, ◌∙◌, ap}
use borrow.Author.Tests.{ne_eqb}
use lib.Dec.{eqb}
use Prim.Native.Nat.{ℕ}
use Rattle.spend_elements.proofs.Scans.{one-is, one-not}
use Rattle.spend_elements.proofs.is_one.Goals as goal

pub returns-then-length_of-eq1 : goal.returns-then-length_of-eq1
returns-then-length_of-eq1 c = ap (λ (b : ℕ). eqb b 1) c.byte_of.ensures ∙ sym (one-is _ (sym c.length_of.ensures ∙ c.if-length_of-eq1.true))

pub returns-else-length_of-eq1 : goal.returns-else-length_of-eq1
returns-else-length_of-eq1 c = ne_eqb _ _ c.if-length_of-eq1.false ∙ sym (one-not _ (λ e. c.if-length_of-eq1.false (c.length_of.ensures ∙ e)))
