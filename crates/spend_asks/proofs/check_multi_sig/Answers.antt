-- `spend_asks::check_multi_sig` meets its contract. Assumes nothing.
use Rattle.std.specs.Prelude.{Some}
use native.Mathlib.Omega.{arith}
use mathlib.Core.Path.{sym, ◌∙◌}
use Rattle.spend_asks.specs.Answers.{Grouped}
use Rattle.spend_stack.proofs.Laws.{stays}
use Rattle.spend_asks.proofs.Groups.{multi-abort, multi-checks}
use Rattle.spend_asks.proofs.check_multi_sig.Goals as goal

pub check_signatures-requires : goal.check_signatures-requires
check_signatures-requires c = let g : Grouped c.args.log.now c.args.main.now c.args.m.main (Some c.in-Some.n) = c.in-Some.ensures in
    (c.requires, omega (arith, g.less))

pub returns-in_default : goal.returns-in_default
returns-in_default c = multi-abort (sym c.is_going.ensures ∙ c.if-is_going.true) c.requires c.in_default.ensures c.with_status.ensures

pub returns-then-is_going : goal.returns-then-is_going
returns-then-is_going c = multi-checks (sym c.is_going.ensures ∙ c.if-is_going.true) c.requires c.in-Some.ensures c.check_signatures.ensures

pub returns : goal.returns
returns c = stays (sym c.is_going.ensures ∙ c.if-is_going.false) c.requires
