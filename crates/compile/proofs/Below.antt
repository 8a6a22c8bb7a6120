-- Every element of a slice of bytes is below 256. Assumes nothing.
use mathlib.Core.Path.{◌≡◌}
use mathlib.Core.List.{List, [], ◌∷◌}
use Prim.Native.Nat.{ℕ, suc, ◌<◌}
use native.Mathlib.Omega.{arith}
use lib.ListN.{length, get_or}
use Rattle.writing.specs.WellFormed.{AllBelow}

module _ (bound : ℕ) where
  pub below_all : (xs : List ℕ) → ((i : ℕ) → get_or xs i 0 < bound) → AllBelow bound xs
  unfolding AllBelow
  below_all [] h = tt
  below_all (x ∷ xs) h = (h 0, below_all xs (λ i. h (suc i)))

  pub below_none : (xs : List ℕ) → length xs ≡ 0 → AllBelow bound xs
  unfolding AllBelow
  below_none [] h = tt
  below_none (x ∷ xs) h = absurd (omega arith)
