-- `spend_log::several_outcomes_end` meets its contract: what is still to come ends where all of it does. Assumes nothing.
use mathlib.Core.Path.{refl, sym, ◌∙◌}
use native.Mathlib.Omega.{arith}
use Rattle.spend_log.specs.Logs.{outcome}
use Rattle.spend_log.proofs.Passing.{told, told-broken, several-next, several-broken, several-all, several-done}
use Rattle.spend_log.proofs.Parts.{takes-outcome}
use Rattle.spend_log.proofs.several_outcomes_end.Goals as goal

pub loop-i-init : goal.loop-i-init
loop-i-init c = (c.requires, omega arith, several-all outcome _ _ _)

pub outcome_end-requires : goal.outcome_end-requires
outcome_end-requires c = c.loop-i.invariant.0

pub returns-in_err-to : goal.returns-in_err-to
returns-in_err-to c = rw c.from_residual.ensures
    (sym (several-broken outcome _ _ _ _ c.loop-i-test.true (told-broken outcome _ _ c.in_err-to.ensures refl)) ∙ c.loop-i.invariant.2)

pub loop-i-preserved : goal.loop-i-preserved
loop-i-preserved c = let p = told outcome _ _ takes-outcome c.loop-i.invariant.0 c.in_ok-to.ensures refl in
    (p.within, omega arith, sym (several-next outcome _ _ _ _ c.loop-i-test.true p) ∙ c.loop-i.invariant.2)

pub returns : goal.returns
returns c = sym (several-done outcome _ _ _ _ c.loop-i-test.false c.loop-i.invariant.0) ∙ c.loop-i.invariant.2
