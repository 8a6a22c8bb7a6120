-- Each rank is a digit, and stands for its variant. Assumes nothing.
use mathlib.Core.Path.{◌≡◌, refl}
use Prim.Native.Nat.{◌<◌}
use native.Mathlib.Omega.{arith}
use Rattle.correctness.specs.Names.{Base, B, K, «V», W, Input, Zero, One, Any, OneNonZero, AnyNonZero}
use Rattle.correctness.specs.Digits.{base_rank, input_rank, base_of, input_of}

pub base-lt : (b : Base) → base_rank b < 4
base-lt B = omega arith
base-lt K = omega arith
base-lt «V» = omega arith
base-lt W = omega arith

pub input-lt : (i : Input) → input_rank i < 5
input-lt Zero = omega arith
input-lt One = omega arith
input-lt Any = omega arith
input-lt OneNonZero = omega arith
input-lt AnyNonZero = omega arith

pub base-of : (b : Base) → base_of (base_rank b) ≡ b
base-of B = refl
base-of K = refl
base-of «V» = refl
base-of W = refl

pub input-of : (i : Input) → input_of (input_rank i) ≡ i
input-of Zero = refl
input-of One = refl
input-of Any = refl
input-of OneNonZero = refl
input-of AnyNonZero = refl
