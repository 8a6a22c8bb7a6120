-- `records::meant` meets its contract: each arm is a range of numbers. Assumes nothing.
use native.Mathlib.Omega.{arith}
use mathlib.Core.Path.{sym}
use Rattle.records.proofs.Widths.{meant-key, meant-one, meant-more, meant_itself, not-below, not-later, not-above}
use Rattle.records.proofs.meant.Goals as goal

pub returns-in-19 : goal.returns-in-19
returns-in-19 c = sym (meant-key c.args.kind (omega arith))

pub returns-in-84-to-85 : goal.returns-in-84-to-85
returns-in-84-to-85 c = sym (meant-one c.args.kind (omega arith) (omega arith))

pub returns-in-107-to-108 : goal.returns-in-107-to-108
returns-in-107-to-108 c = sym (meant-more c.args.kind (omega arith) (omega arith))

pub returns-in_default : goal.returns-in_default
returns-in_default c = sym (meant_itself c.args.kind (sym (not-below c.args.kind (omega arith) c.in_default.in_default-own.rest.1)))

pub returns-in_default-2 : goal.returns-in_default-2
returns-in_default-2 c = sym (meant_itself c.args.kind (sym (not-later c.args.kind (omega arith) (omega arith))))

pub returns-in_default-3 : goal.returns-in_default-3
returns-in_default-3 c = sym (meant_itself c.args.kind (sym (not-above c.args.kind (omega arith))))
