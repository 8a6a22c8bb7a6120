-- `spend_stack::if_dup` meets its contract. Assumes nothing.
use native.Mathlib.Omega.{arith}
use mathlib.Core.Path.{sym, ◌∙◌, ap, refl}
use Rattle.spend_elements.specs.declared.Element.{Element}
use Rattle.spend_elements.specs.Elements.{bytes_in}
use Rattle.script_machine.specs.Numbers.{is_true}
use Rattle.script_machine.specs.Words.{IFDUP}
use Rattle.spend_stack.proofs.Laws.{not-ready, leaves, keeps}
use Rattle.spend_stack.proofs.Steps.{without-one, if-dup-none, if-dup-on, if-dup-not}
use Rattle.spend_stack.proofs.if_dup.Goals as goal

pub returns-in-Err : goal.returns-in-Err
returns-in-Err c = not-ready 1 c.requires c.in-Err.ensures (without-one c.args.log.now c.args.main.now c.args.m IFDUP if-dup-none)

pub returns-then-is_true : goal.returns-then-is_true
returns-then-is_true c = leaves c.in-Ok.ensures.0 c.requires c.over.ensures (ap (bytes_in c.args.log.now) c.get-e.ensures)
    (if-dup-on c.args.log.now c.args.main.now c.args.m c.in-Ok.ensures.1 (sym (c.is_true.ensures ∙ ap (λ (e : Element). is_true (bytes_in c.args.log.now e)) c.get-e.ensures) ∙ c.if-is_true.true))

pub returns-else-is_true : goal.returns-else-is_true
returns-else-is_true c = keeps c.in-Ok.ensures.0 c.requires refl (omega arith)
    (if-dup-not c.args.log.now c.args.main.now c.args.m c.in-Ok.ensures.1 (sym (c.is_true.ensures ∙ ap (λ (e : Element). is_true (bytes_in c.args.log.now e)) c.get-e.ensures) ∙ c.if-is_true.false))
