-- `spend_log::entry_end` meets its contract: part by part. Assumes nothing.
use Rattle.spend_log.proofs.Parts.{takes-elements, takes-outcomes, entry-short, entry-starts, entry-asks, entry-ends}
use Rattle.spend_log.proofs.Passing.{told, told-broken}
use Rattle.spend_log.specs.Readers.{counted}
use Rattle.spend_log.specs.Logs.{elements, outcome}
use native.Mathlib.Omega.{arith}
use mathlib.Core.Path.{refl, ◌∙◌}
use Rattle.spend_log.proofs.entry_end.Goals as goal

pub returns-then-log-at-lt4 : goal.returns-then-log-at-lt4
returns-then-log-at-lt4 c = entry-short c.args.log.now c.args.at c.requires c.if-log-at-lt4.true

pub returns-in_err-outcomes : goal.returns-in_err-outcomes
returns-in_err-outcomes c = rw c.from_residual.ensures
    (entry-starts c.args.log.now c.args.at (omega arith) (told-broken elements _ _ c.in_err-outcomes.ensures refl))

pub outcomes_end-requires : goal.outcomes_end-requires
outcomes_end-requires c = (told elements _ _ takes-elements (omega arith) c.in_ok-outcomes.ensures refl).within

pub returns-in_err-end : goal.returns-in_err-end
returns-in_err-end c = let start = told elements _ _ takes-elements (omega arith) c.in_ok-outcomes.ensures refl in
    rw c.from_residual-in_err-end.ensures
    (entry-asks c.args.log.now c.args.at (omega arith) start (told-broken (counted outcome) _ _ c.in_err-end.ensures refl))

pub ending_end-requires : goal.ending_end-requires
ending_end-requires c = let start = told elements _ _ takes-elements (omega arith) c.in_ok-outcomes.ensures refl in
    (told (counted outcome) _ _ takes-outcomes start.within c.in_ok-end.ensures refl).within

pub returns : goal.returns
returns c = let start = told elements _ _ takes-elements (omega arith) c.in_ok-outcomes.ensures refl in
    let asks = told (counted outcome) _ _ takes-outcomes start.within c.in_ok-end.ensures refl in
    c.ending_end.ensures ∙ entry-ends c.args.log.now c.args.at (omega arith) start asks
