-- What the tables of inputs have in common. Assumes nothing.
use mathlib.Core.Path.{◌≡◌, refl}
use Prim.Native.Nat.{ℕ, zero, suc, ◌+◌, ◌≤◌, ◌<◌}
use native.Mathlib.Omega.{arith}
use borrow.Author.Tests.{ne_eqb}
use Rattle.correctness.specs.Names.{Input, Zero, One, Any, OneNonZero, AnyNonZero}
use Rattle.correctness.specs.CorrectnessRules.{or_b_input, num_args, threshold_input}

many : (n : ℕ) → 2 ≤ n → threshold_input n ≡ Any
many n h = rw (ne_eqb n 0 (λ e. absurd (too_few n 0 e h (omega arith))), ne_eqb n 1 (λ e. absurd (too_few n 1 e h (omega arith))))
  where
    too_few : (n m : ℕ) → n ≡ m → 2 ≤ n → m < 2 → ⊥
    too_few n m e h k = omega arith

-- counting the elements of one more child is what or_b does
pub count-input : (m : ℕ) (i : Input) → or_b_input (threshold_input m) i ≡ threshold_input (m + num_args i)
count-input zero Zero = refl
count-input zero One = refl
count-input zero Any = refl
count-input zero OneNonZero = refl
count-input zero AnyNonZero = refl
count-input (suc zero) Zero = refl
count-input (suc zero) One = refl
count-input (suc zero) Any = refl
count-input (suc zero) OneNonZero = refl
count-input (suc zero) AnyNonZero = refl
count-input (suc (suc m)) i = rw (many (suc (suc m)) (omega arith), many (suc (suc m) + num_args i) (omega arith))
