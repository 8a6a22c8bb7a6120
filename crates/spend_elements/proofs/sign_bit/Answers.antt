-- `spend_elements::sign_bit` meets its contract. Assumes nothing.
use native.Mathlib.Omega.{arith}
use mathlib.Core.Path.{◌≡◌, sym, ap}
use Rattle.spend_elements.specs.Signed.{sign_bit}
use Rattle.spend_elements.proofs.sign_bit.Goals as goal

pub returns-in-0 : goal.returns-in-0
returns-in-0 c = rw c.in-0.is

pub returns-in-1 : goal.returns-in-1
returns-in-1 c = rw c.in-1.is

pub returns-in-2 : goal.returns-in-2
returns-in-2 c = rw c.in-2.is

pub returns-in-3 : goal.returns-in-3
returns-in-3 c = rw c.in-3.is

pub returns-in_default : goal.returns-in_default
returns-in_default c = let e : c.args.n ≡ 4 = omega arith in sym (ap sign_bit e)
