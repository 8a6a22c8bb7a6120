-- `spend_elements::small_byte` meets its contract. Assumes nothing.
use native.Mathlib.Omega.{arith}
use mathlib.Core.Path.{◌≡◌, sym, ◌∙◌, ap}
use Prim.Native.Nat.{ℕ}
use lib.ListN.{get_or}
use Rattle.words.specs.Bytes.{bytes_of}
use Rattle.spend_elements.proofs.Ranges.{digit-0, digit-1, digit-2, digit-3, digit-4, digits-past}
use Rattle.spend_elements.proofs.small_byte.Goals as goal

pub returns-then-n-j : goal.returns-then-n-j
returns-then-n-j c = sym (digits-past c.args.n c.args.v c.args.j c.if-n-j.true)

pub returns-in-0 : goal.returns-in-0
returns-in-0 c = rw c.in-0.is (sym (digit-0 c.args.n c.args.v (omega arith)))

pub returns-in-1 : goal.returns-in-1
returns-in-1 c = rw c.in-1.is (sym (digit-1 c.args.n c.args.v (omega arith)))

pub returns-in-2 : goal.returns-in-2
returns-in-2 c = rw c.in-2.is (sym (digit-2 c.args.n c.args.v (omega arith)))

pub returns-in-3 : goal.returns-in-3
returns-in-3 c = rw c.in-3.is (sym (digit-3 c.args.n c.args.v (omega arith)))

pub returns-in_default : goal.returns-in_default
returns-in_default c = let e : c.args.j ≡ 4 = omega arith in
    sym (ap (λ (j : ℕ). get_or (bytes_of c.args.n c.args.v) j 0) e ∙ digit-4 c.args.n c.args.v (omega arith))
