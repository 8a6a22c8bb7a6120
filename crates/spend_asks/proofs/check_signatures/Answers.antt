-- `spend_asks::check_signatures` meets its contract. Assumes nothing.
use Rattle.std.specs.Prelude.{Some}
use native.Mathlib.Omega.{arith}
use mathlib.Core.Path.{refl, sym, ◌∙◌}
use Rattle.spend_asks.specs.Answers.{Grouped}
use Rattle.spend_asks.proofs.Groups.{checks-abort, checks-over, not-dummied, some-dummy}
use Rattle.spend_asks.proofs.check_signatures.Goals as goal

pub returns-in_default : goal.returns-in_default
returns-in_default c = checks-abort c.requires.0 c.in_default.ensures (λ a b. refl) c.with_status.ensures

pub is_dummy-requires : goal.is_dummy-requires
is_dummy-requires c = let g : Grouped c.args.log.now c.args.main.now c.args.n (Some c.in-Some.d) = c.in-Some.ensures in
    (omega (arith, g.less, c.requires.0.few, c.requires.1), c.requires.0.room)

pub overflow_sub-d : goal.overflow_sub-d
overflow_sub-d c = omega (arith, some-dummy c.args.log.now c.args.main.now _ (sym c.is_dummy.ensures ∙ c.if-is_dummy.true))

pub say_over-requires : goal.say_over-requires
say_over-requires c = let g : Grouped c.args.log.now c.args.main.now c.args.n (Some c.in-Some.d) = c.in-Some.ensures in
    (c.requires.0, omega (arith, g.less, c.requires.1))

pub returns-then-is_dummy : goal.returns-then-is_dummy
returns-then-is_dummy c = checks-over c.requires.0 c.in-Some.ensures (sym c.is_dummy.ensures ∙ c.if-is_dummy.true) c.say_over.ensures

pub returns : goal.returns
returns c = checks-abort c.requires.0 c.in-Some.ensures
    (λ a b. not-dummied c.args.log.now c.args.main.now _ a b (sym c.is_dummy.ensures ∙ c.if-is_dummy.false)) c.with_status-2.ensures
