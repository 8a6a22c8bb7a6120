-- A list copied into an array, number by number. Assumes nothing.
use mathlib.Core.Path.{◌≡◌, sym, ap, ◌∙◌}
use mathlib.Core.List.{List, [], ◌∷◌, ◌++◌}
use Prim.Native.Nat.{ℕ, ◌+◌, ◌<◌, ◌≤◌}
use native.Mathlib.Numerals.{add-one}
use native.Mathlib.Omega.{arith}
use lib.ListN.{length, get_or, take, set}
use lib.Seq.{take-suc, take-suc-set, take-length}

module _ (es copy : List ℕ) (j : ℕ) (so_far : take j copy ≡ take j es) where
  pub copied_next : {v : ℕ} → v ≡ get_or es j 0 → j < length copy → j < length es → take (j + 1) (set copy j v) ≡ take (j + 1) es
  copied_next {v} e h k =
      rw add-one
      (take-suc-set copy j v h
      ∙ ap (λ (l : List ℕ). l ++ (v ∷ [])) so_far
      ∙ ap (λ (x : ℕ). take j es ++ (x ∷ [])) e
      ∙ sym (take-suc es j 0 k))

  pub copied_all : {len : ℕ} → len ≡ length es → len ≤ j → j ≤ len → take len copy ≡ es
  copied_all {len} e h k =
      let i : len ≡ j = omega arith in
      let n : j ≡ length es = omega arith in
      ap (λ (n : ℕ). take n copy) i ∙ so_far ∙ ap (λ (n : ℕ). take n es) n ∙ take-length es
