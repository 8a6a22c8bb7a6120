-- `records::is_long` meets its contract: each arm is a range of numbers. Assumes nothing.
use native.Mathlib.Omega.{arith}
use Rattle.records.proofs.Widths.{is_key, is_one, is-more, not-below, not-later, not-above}
use Rattle.records.proofs.is_long.Goals as goal

pub returns-in-19 : goal.returns-in-19
returns-in-19 c = is_key c.args.kind (omega arith)

pub returns-in-84-to-85 : goal.returns-in-84-to-85
returns-in-84-to-85 c = is_one c.args.kind (omega arith) (omega arith)

pub returns-in-107-to-108 : goal.returns-in-107-to-108
returns-in-107-to-108 c = is-more c.args.kind (omega arith) (omega arith)

pub returns-in_default : goal.returns-in_default
returns-in_default c = not-below c.args.kind (omega arith) c.in_default.in_default-own.rest.1

pub returns-in_default-2 : goal.returns-in_default-2
returns-in_default-2 c = not-later c.args.kind (omega arith) (omega arith)

pub returns-in_default-3 : goal.returns-in_default-3
returns-in_default-3 c = not-above c.args.kind (omega arith)
