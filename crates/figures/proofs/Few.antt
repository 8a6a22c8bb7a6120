-- Bounds of the numbers that the rules add. Assumes nothing.
use mathlib.Core.Bool.{Bool, true, false, cond}
use Prim.Native.Nat.{ℕ, ◌≤◌}
use native.Mathlib.Omega.{arith}
use lib.Dec.{leb, ltb}
use Rattle.contexts.specs.declared.Context.{Context}
use Rattle.contexts.specs.declared.Context.TheVariants.{Segwitv0, Tap}
use Rattle.figures.specs.Rules.{max, num, script_num_size, key_bytes, num_cost}

pub cond-is : (P : ℕ → Type 0) (b : Bool) {x y : ℕ} → P x → P y → P (cond b x y)
cond-is P true p q = p
cond-is P false p q = q

pub cond-le : (b : Bool) {x y n : ℕ} → x ≤ n → y ≤ n → cond b x y ≤ n
cond-le b {n = n} p q = cond-is (λ m. m ≤ n) b p q

pub max-le : (a b : ℕ) {n : ℕ} → a ≤ n → b ≤ n → max a b ≤ n
max-le a b p q = cond-le (leb a b) q p

pub num-le : (b : Bool) → num b ≤ 1
num-le true = omega arith
num-le false = omega arith

pub key-le : (c : Context) → key_bytes c ≤ 34
key-le Segwitv0 = omega arith
key-le Tap = omega arith

pub num-size-le : (n : ℕ) → script_num_size n ≤ 6
num-size-le n =
    cond-le (leb n 16) (omega arith)
    (cond-le (ltb n 0x80) (omega arith)
    (cond-le (ltb n 0x8000) (omega arith)
    (cond-le (ltb n 0x80_0000) (omega arith) (cond-le (ltb n 0x8000_0000) (omega arith) (omega arith)))))

pub num-cost-le : (k n : ℕ) → num_cost k n ≤ 4
num-cost-le k n =
    cond-le (ltb 16 k) (cond-le (ltb 16 n) (omega arith) (omega arith)) (cond-le (ltb 16 n) (omega arith) (omega arith))
