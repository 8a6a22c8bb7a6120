-- `numerals::digit` meets its contract: each range of signs. Assumes nothing.
use native.Mathlib.Omega.{arith}
use Rattle.numerals.proofs.Digits.{below-0, from-0-to-9, from-9-to-a, from-a-to-f, above-f}
use mathlib.Core.Path.{sym}
use Rattle.numerals.proofs.digit.Goals as goal

pub returns-in-48-to-57 : goal.returns-in-48-to-57
returns-in-48-to-57 c = sym (from-0-to-9 c.args.b (omega arith) (omega arith))

pub returns-in-65-to-70 : goal.returns-in-65-to-70
returns-in-65-to-70 c = sym (from-a-to-f c.args.b (omega arith) (omega arith))

pub returns-in_default : goal.returns-in_default
returns-in_default c = sym (below-0 c.args.b (omega arith))

pub returns-in_default-2 : goal.returns-in_default-2
returns-in_default-2 c = sym (from-9-to-a c.args.b (omega arith) (omega arith))

pub returns-in_default-3 : goal.returns-in_default-3
returns-in_default-3 c = sym (above-f c.args.b (omega arith))
