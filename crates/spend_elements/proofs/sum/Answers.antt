-- `spend_elements::sum` meets its contract. Assumes nothing.
use mathlib.Core.Path.{sym, ◌∙◌, ap}
use Rattle.script_machine.specs.Numbers.{write}
use Rattle.spend_elements.proofs.Writing.{both_negative, negative-first}
use Rattle.spend_elements.proofs.sum.Goals as goal

pub returns-in-true-true : goal.returns-in-true-true
returns-in-true-true c log = rw (c.in-true-true.is-0, c.in-true-true.is-1) (c.written.ensures log ∙ ap write (both_negative c.args.a.size c.args.b.size))

pub returns-in-true-false : goal.returns-in-true-false
returns-in-true-false c log = rw (c.in-true-false.is-0, c.in-true-false.is-1) (c.difference.ensures log ∙ ap write (sym (negative-first c.args.a.size c.args.b.size)))

pub returns-in-false-true : goal.returns-in-false-true
returns-in-false-true c log = rw (c.in-false-true.is-0, c.in-false-true.is-1) (c.difference-in-false-true.ensures log)

pub returns-in-false-false : goal.returns-in-false-false
returns-in-false-false c log = rw (c.in-false-false.is-0, c.in-false-false.is-1) (c.written-in-false-false.ensures log)
