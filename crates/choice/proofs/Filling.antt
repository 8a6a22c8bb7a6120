-- An array filled with what the numbers of a row stand for, one by one. Assumes nothing.
use mathlib.Core.Path.{◌≡◌, sym, ◌∙◌, ap}
use mathlib.Core.List.{List, [], ◌∷◌, ◌++◌, map, map-append}
use Prim.Native.Nat.{ℕ, ◌+◌, ◌<◌}
use native.Mathlib.Numerals.{add-one}
use lib.ListN.{length, get_or, take, set}
use lib.Seq.{take-suc, take-suc-set, take-length}

-- the first i are filled
module _ {A : Type 0} (f : ℕ → A) (row : List ℕ) (l : List A) {i : ℕ} (sofar : take i l ≡ map f (take i row)) where
  pub filling-on : i < length l → i < length row → {x : A} → x ≡ f (get_or row i 0) → take (i + 1) (set l i x) ≡ map f (take (i + 1) row)
  filling-on h k {x} is =
      rw (add-one i)
      (take-suc-set l i x h
      ∙ ap (λ (y : A). take i l ++ (y ∷ [])) is
      ∙ ap (λ (r : List A). r ++ (f (get_or row i 0) ∷ [])) sofar
      ∙ sym (map-append f (take i row) (get_or row i 0 ∷ []))
      ∙ ap (map f) (sym (take-suc row i 0 k)))

  pub filling-ends : i ≡ length row → take (length row) l ≡ map f row
  filling-ends same =
      ap (λ (n : ℕ). take n l) (sym same) ∙ sofar ∙ ap (λ (n : ℕ). map f (take n row)) same ∙ ap (map f) (take-length row)
