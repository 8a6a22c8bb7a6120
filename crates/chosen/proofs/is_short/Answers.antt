-- `chosen::is_short` meets its contract: each arm is a range of numbers. Assumes nothing.
use native.Mathlib.Omega.{arith}
use Rattle.chosen.proofs.Steps.{short-keys, short-lists, not-short-below, not-short-between, not-short-above}
use Rattle.chosen.proofs.is_short.Goals as goal

pub returns-in-34-to-35 : goal.returns-in-34-to-35
returns-in-34-to-35 c = short-keys c.args.kind (omega arith) (omega arith)

pub returns-in-57-to-58 : goal.returns-in-57-to-58
returns-in-57-to-58 c = short-lists c.args.kind (omega arith) (omega arith)

pub returns-in_default : goal.returns-in_default
returns-in_default c = not-short-below c.args.kind (omega arith)

pub returns-in_default-2 : goal.returns-in_default-2
returns-in_default-2 c = not-short-between c.args.kind (omega arith) (omega arith)

pub returns-in_default-3 : goal.returns-in_default-3
returns-in_default-3 c = not-short-above c.args.kind (omega arith)
