-- `spend_elements::same` meets its contract: the bytes passed are equal, and the others are still to come. Assumes nothing.
use mathlib.Core.Path.{refl, sym, ◌∙◌}
use Rattle.spend_elements.proofs.Scans.{same_more, same-other, same-done, same_not}
use Rattle.spend_elements.proofs.same.Goals as goal

pub returns-then-n-length_of : goal.returns-then-n-length_of
returns-then-n-length_of c = sym (same_not _ _ (λ e. c.if-n-length_of.true (c.length_of-n.ensures ∙ e ∙ sym c.length_of.ensures)))

pub loop-j-init : goal.loop-j-init
loop-j-init c = refl

pub returns-then-x-y : goal.returns-then-x-y
returns-then-x-y c = same-other _ _ _ c.loop-j.j _ _ c.length_of-n.ensures (c.if-n-length_of.false ∙ c.length_of.ensures) c.loop-j-test.true
    c.byte_of-x.ensures c.byte_of-y.ensures c.if-x-y.true c.loop-j.invariant

pub loop-j-preserved : goal.loop-j-preserved
loop-j-preserved c = same_more _ _ _ c.loop-j.j _ _ c.length_of-n.ensures (c.if-n-length_of.false ∙ c.length_of.ensures) c.loop-j-test.true
    c.byte_of-x.ensures c.byte_of-y.ensures c.if-x-y.false c.loop-j.invariant

pub returns : goal.returns
returns c = same-done _ _ _ c.loop-j.j c.length_of-n.ensures (c.if-n-length_of.false ∙ c.length_of.ensures) c.loop-j-test.false c.loop-j.invariant
