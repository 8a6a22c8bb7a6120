-- `spend_stack::combined` meets its contract. Assumes nothing.
use mathlib.Core.Path.{◌∙◌, ap, refl}
use Rattle.script_machine.specs.Numbers.{element}
use Rattle.spend_stack.proofs.combined.Goals as goal

pub returns-in-NumEqual : goal.returns-in-NumEqual
returns-in-NumEqual c log = rw c.in-NumEqual.is (c.test.ensures log ∙ ap element c.equal.ensures)

pub returns-in-BoolAnd : goal.returns-in-BoolAnd
returns-in-BoolAnd c log = rw c.in-BoolAnd.is (c.test-in-BoolAnd.ensures log ∙ ap element (rw (c.nonzero.ensures, c.nonzero-in-BoolAnd.ensures) refl))

pub returns-in-BoolOr : goal.returns-in-BoolOr
returns-in-BoolOr c log = rw c.in-BoolOr.is (c.test-in-BoolOr.ensures log ∙ ap element (rw (c.nonzero-in-BoolOr.ensures, c.nonzero-in-BoolOr-2.ensures) refl))

pub returns-in-Add : goal.returns-in-Add
returns-in-Add c log = rw c.in-Add.is (c.sum.ensures log)
