-- `spend_stack::top_true` meets its contract. Assumes nothing.
use mathlib.Core.Path.{sym, ◌∙◌, ap}
use Rattle.spend_elements.specs.declared.Element.{Element}
use Rattle.spend_elements.specs.Elements.{bytes_in}
use Rattle.script_machine.specs.Numbers.{is_true}
use Rattle.spend_stack.proofs.Steps.{top-true, top-none}
use Rattle.spend_stack.proofs.top_true.Goals as goal

pub returns-then-n-lt1 : goal.returns-then-n-lt1
returns-then-n-lt1 c = sym (top-none c.args.log.now c.args.main.now c.args.m c.if-n-lt1.true)

pub returns : goal.returns
returns c = c.is_true.ensures ∙ ap (λ (e : Element). is_true (bytes_in c.args.log.now e)) c.get.ensures
    ∙ sym (top-true c.args.log.now c.args.main.now c.args.m c.if-n-lt1.false)
