-- `spend_stack::equal` meets its contract. Assumes nothing.
use mathlib.Core.Path.{◌∙◌, ap, refl}
use Rattle.script_machine.specs.Numbers.{element}
use Rattle.script_machine.specs.Words.{EQUAL}
use Rattle.spend_stack.proofs.Laws.{not-ready, leaves}
use Rattle.spend_stack.proofs.Steps.{without-two, equal-none, equal-one, equal-on}
use Rattle.spend_stack.proofs.equal.Goals as goal

pub returns-in-Err : goal.returns-in-Err
returns-in-Err c = not-ready 2 c.requires c.in-Err.ensures (without-two c.args.log.now c.args.main.now c.args.m EQUAL equal-none equal-one)

pub returns-in-Ok : goal.returns-in-Ok
returns-in-Ok c = leaves c.in-Ok.ensures.0 c.requires c.over.ensures
    (c.test-e.ensures c.args.log.now ∙ ap element c.same.ensures ∙ rw (c.get-x.ensures, c.get-y.ensures) refl)
    (equal-on c.args.log.now c.args.main.now c.args.m c.in-Ok.ensures.1)
