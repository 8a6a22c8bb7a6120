-- `records::arity` meets its contract: a range of kinds at a time. Assumes nothing.
use native.Mathlib.Omega.{arith}
use Rattle.records.proofs.Arities.{past, arity-one, arity-two, arity-below, arity-above}
use Rattle.records.proofs.arity.Goals as goal

pub returns-in-55 : goal.returns-in-55
returns-in-55 c = rw c.in-55.is

pub returns-in-56 : goal.returns-in-56
returns-in-56 c = rw c.in-56.is

pub returns-in-42-to-48 : goal.returns-in-42-to-48
returns-in-42-to-48 c = arity-one c.args.kind c.args.count (omega arith) (omega arith)

pub returns-in-49-to-54 : goal.returns-in-49-to-54
returns-in-49-to-54 c = arity-two c.args.kind c.args.count (omega arith) (omega arith)

pub returns-in_default : goal.returns-in_default
returns-in_default c = arity-below c.args.kind c.args.count c.in_default.if-kind-lt42-own.true

pub returns-in_default-2 : goal.returns-in_default-2
returns-in_default-2 c = arity-above c.args.kind c.args.count (omega (arith, past (past c.in_default.if-kind-lt55-own.false c.in_default.in_default-own.rest.0.1) c.in_default.in_default-own.rest.1))
