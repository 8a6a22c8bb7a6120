-- `spend_elements::difference` meets its contract. Assumes nothing.
use mathlib.Core.Path.{sym, ◌∙◌, ap}
use Rattle.script_machine.specs.Numbers.{write}
use Rattle.spend_elements.proofs.Writing.{minus-less, minus-more}
use Rattle.spend_elements.proofs.difference.Goals as goal

pub returns-then-a-b : goal.returns-then-a-b
returns-then-a-b c log = c.written.ensures log ∙ ap write (sym (minus-less c.args.a c.args.b c.if-a-b.true))

pub returns : goal.returns
returns c log = c.written-2.ensures log ∙ ap write (sym (minus-more c.args.a c.args.b c.if-a-b.false))
