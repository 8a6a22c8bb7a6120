-- `spend_elements::is_true` meets its contract: no byte passed tells, and the others are still to come. Assumes nothing.
use mathlib.Core.Path.{refl, sym, ◌∙◌}
use Rattle.spend_elements.proofs.Scans.{true-told, true-more, true-done}
use Rattle.spend_elements.proofs.is_true.Goals as goal

pub loop-j-init : goal.loop-j-init
loop-j-init c = refl

pub returns-then-tells : goal.returns-then-tells
returns-then-tells c = true-told _ _ c.loop-j.j _ c.length_of-n.ensures c.loop-j-test.true c.byte_of.ensures (sym c.tells.ensures ∙ c.if-tells.true) c.loop-j.invariant

pub loop-j-preserved : goal.loop-j-preserved
loop-j-preserved c = true-more _ _ c.loop-j.j _ c.length_of-n.ensures c.loop-j-test.true c.byte_of.ensures (sym c.tells.ensures ∙ c.if-tells.false) c.loop-j.invariant

pub returns : goal.returns
returns c = true-done _ _ c.loop-j.j c.length_of-n.ensures c.loop-j-test.false c.loop-j.invariant
