-- `spend_log::elements_end` meets its contract: what is still to come ends where all of it does. Assumes nothing.
use mathlib.Core.Path.{refl, sym, ◌∙◌}
use native.Mathlib.Omega.{arith}
use Rattle.spend_log.specs.Logs.{element}
use Rattle.spend_log.proofs.Passing.{told, told-broken, several-next, several-broken, several-all, several-done}
use Rattle.spend_log.proofs.Parts.{takes-element}
use Rattle.spend_log.proofs.elements_end.Goals as goal

pub loop-i-init : goal.loop-i-init
loop-i-init c = (c.requires, omega arith, several-all element _ _ _)

pub element_end-requires : goal.element_end-requires
element_end-requires c = c.loop-i.invariant.0

pub returns-in_err-to : goal.returns-in_err-to
returns-in_err-to c = rw c.from_residual.ensures
    (sym (several-broken element _ _ _ _ c.loop-i-test.true (told-broken element _ _ c.in_err-to.ensures refl)) ∙ c.loop-i.invariant.2)

pub loop-i-preserved : goal.loop-i-preserved
loop-i-preserved c = let p = told element _ _ takes-element c.loop-i.invariant.0 c.in_ok-to.ensures refl in
    (p.within, omega arith, sym (several-next element _ _ _ _ c.loop-i-test.true p) ∙ c.loop-i.invariant.2)

pub returns : goal.returns
returns c = sym (several-done element _ _ _ _ c.loop-i-test.false c.loop-i.invariant.0) ∙ c.loop-i.invariant.2
