-- `output::front_length_lem` meets its contract: a range of kinds at a time. Assumes nothing.
use native.Mathlib.Omega.{arith}
use mathlib.Core.Path.{◌∙◌}
use Rattle.output.proofs.Children.{front-number, front-keys, front_low, front-middle, front-high}
use Rattle.output.proofs.front_length.Goals as goal

pub returns-in-56 : goal.returns-in-56
returns-in-56 c = rw c.in-56.is

pub returns-in-34-to-41 : goal.returns-in-34-to-41
returns-in-34-to-41 c = c.number_width.ensures ∙ front-number c.args.kind c.args.n (omega arith) (omega arith)

pub returns-in-57-to-58 : goal.returns-in-57-to-58
returns-in-57-to-58 c = front-keys c.args.kind c.args.n (omega arith) (omega arith)

pub returns-in_default : goal.returns-in_default
returns-in_default c = front_low c.args.kind c.args.n (omega arith)

pub returns-in_default-2 : goal.returns-in_default-2
returns-in_default-2 c = front-middle c.args.kind c.args.n (omega arith) (omega arith)

pub returns-in_default-3 : goal.returns-in_default-3
returns-in_default-3 c = front-high c.args.kind c.args.n (omega arith)
