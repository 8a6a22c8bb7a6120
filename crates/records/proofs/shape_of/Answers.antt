-- `records::shape_of` meets its contract: each arm is a range of kinds that no row of the table parts. Assumes nothing.
use mathlib.Core.Path.{refl}
use native.Mathlib.Omega.{arith}
use Rattle.records.proofs.KindRanges.{answers-in}
use Rattle.records.proofs.shape_of.Goals as goal

pub returns-in-3 : goal.returns-in-3
returns-in-3 c = answers-in 3 3 refl c.args.kind (omega arith) (omega arith)

pub returns-in-10 : goal.returns-in-10
returns-in-10 c = answers-in 10 10 refl c.args.kind (omega arith) (omega arith)

pub returns-in-11 : goal.returns-in-11
returns-in-11 c = answers-in 11 11 refl c.args.kind (omega arith) (omega arith)

pub returns-in-12 : goal.returns-in-12
returns-in-12 c = answers-in 12 12 refl c.args.kind (omega arith) (omega arith)

pub returns-in-55 : goal.returns-in-55
returns-in-55 c = answers-in 55 55 refl c.args.kind (omega arith) (omega arith)

pub returns-in-56 : goal.returns-in-56
returns-in-56 c = answers-in 56 56 refl c.args.kind (omega arith) (omega arith)

pub returns-in-1-to-2 : goal.returns-in-1-to-2
returns-in-1-to-2 c = answers-in 1 2 refl c.args.kind (omega arith) (omega arith)

pub returns-in-4-to-5 : goal.returns-in-4-to-5
returns-in-4-to-5 c = answers-in 4 5 refl c.args.kind (omega arith) (omega arith)

pub returns-in-6-to-9 : goal.returns-in-6-to-9
returns-in-6-to-9 c = answers-in 6 9 refl c.args.kind (omega arith) (omega arith)

pub returns-in-32-to-33 : goal.returns-in-32-to-33
returns-in-32-to-33 c = answers-in 32 33 refl c.args.kind (omega arith) (omega arith)

pub returns-in-34-to-35 : goal.returns-in-34-to-35
returns-in-34-to-35 c = answers-in 34 35 refl c.args.kind (omega arith) (omega arith)

pub returns-in-36-to-37 : goal.returns-in-36-to-37
returns-in-36-to-37 c = answers-in 36 37 refl c.args.kind (omega arith) (omega arith)

pub returns-in-38-to-41 : goal.returns-in-38-to-41
returns-in-38-to-41 c = answers-in 38 41 refl c.args.kind (omega arith) (omega arith)

pub returns-in-42-to-48 : goal.returns-in-42-to-48
returns-in-42-to-48 c = answers-in 42 48 refl c.args.kind (omega arith) (omega arith)

pub returns-in-49-to-54 : goal.returns-in-49-to-54
returns-in-49-to-54 c = answers-in 49 54 refl c.args.kind (omega arith) (omega arith)

pub returns-in-57-to-58 : goal.returns-in-57-to-58
returns-in-57-to-58 c = answers-in 57 58 refl c.args.kind (omega arith) (omega arith)

pub returns-in_default : goal.returns-in_default
returns-in_default c = answers-in 0 0 refl c.args.kind (omega arith) (omega arith)

pub returns-in_default-2 : goal.returns-in_default-2
returns-in_default-2 c = answers-in 13 31 refl c.args.kind (omega arith) (omega arith)

pub returns-in_default-3 : goal.returns-in_default-3
returns-in_default-3 c = answers-in 59 65535 refl c.args.kind (omega arith) (omega arith)
