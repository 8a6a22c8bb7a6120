-- `spend_stack::verify` meets its contract. Assumes nothing.
use native.Mathlib.Omega.{arith}
use mathlib.Core.Path.{sym, ◌∙◌, ap}
use Rattle.spend_elements.specs.declared.Element.{Element}
use Rattle.spend_elements.specs.Elements.{bytes_in}
use Rattle.script_machine.specs.Numbers.{is_true}
use Rattle.script_machine.specs.Words.{VERIFY}
use Rattle.spend_stack.proofs.Laws.{not-ready, aborts, keeps}
use Rattle.spend_stack.proofs.Steps.{without-one, verify-none, verify-on, verify-not}
use Rattle.spend_stack.proofs.verify.Goals as goal

pub returns-in-Err : goal.returns-in-Err
returns-in-Err c = not-ready 1 c.requires c.in-Err.ensures (without-one c.args.log.now c.args.main.now c.args.m VERIFY verify-none)

pub returns-then-is_true : goal.returns-then-is_true
returns-then-is_true c = keeps c.in-Ok.ensures.0 c.requires c.with_main.ensures (omega arith)
    (verify-on c.args.log.now c.args.main.now c.args.m c.in-Ok.ensures.1 (sym (c.is_true.ensures ∙ ap (λ (e : Element). is_true (bytes_in c.args.log.now e)) c.get.ensures) ∙ c.if-is_true.true))

pub returns-else-is_true : goal.returns-else-is_true
returns-else-is_true c = aborts c.in-Ok.ensures.0 c.requires c.with_status.ensures
    (verify-not c.args.log.now c.args.main.now c.args.m c.in-Ok.ensures.1 (sym (c.is_true.ensures ∙ ap (λ (e : Element). is_true (bytes_in c.args.log.now e)) c.get.ensures) ∙ c.if-is_true.false))
