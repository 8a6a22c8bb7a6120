-- `spend_log::count_entries` meets its contract: the entries passed, and those still to come. Assumes nothing.
use mathlib.Core.Path.{refl, sym, ◌∙◌}
use native.Mathlib.Omega.{arith}
use Rattle.spend_log.specs.Logs.{entry}
use Rattle.spend_log.proofs.Passing.{told, told-broken}
use Rattle.spend_log.proofs.Parts.{takes-entry}
use Rattle.spend_log.proofs.Counting.{counting-none, counting-next, counting-broken, counting-done}
use Rattle.spend_log.proofs.count_entries.Goals as goal

pub loop-to-init : goal.loop-to-init
loop-to-init c = (c.requires, omega arith, refl)

pub entry_end-requires : goal.entry_end-requires
entry_end-requires c = c.loop-to.invariant.0

pub returns-in_err-to : goal.returns-in_err-to
returns-in_err-to c = rw c.from_residual.ensures
    (sym (counting-broken _ _ _ c.loop-to-test.true (told-broken entry _ _ c.in_err-to.ensures refl)) ∙ c.loop-to.invariant.2 ∙ counting-none _ _)

pub overflow_add-count : goal.overflow_add-count
overflow_add-count c = omega arith

pub loop-to-smaller : goal.loop-to-smaller
loop-to-smaller c = let p = told entry _ _ takes-entry c.loop-to.invariant.0 c.in_ok-to.ensures refl in
    let l = p.onwards in
    omega arith

pub loop-to-preserved : goal.loop-to-preserved
loop-to-preserved c = let p = told entry _ _ takes-entry c.loop-to.invariant.0 c.in_ok-to.ensures refl in
    let l = p.onwards in
    (p.within, omega arith, sym (counting-next _ _ _ p) ∙ c.loop-to.invariant.2)

pub returns : goal.returns
returns c = sym (counting-done _ _ _ c.loop-to-test.false) ∙ c.loop-to.invariant.2 ∙ counting-none _ _
