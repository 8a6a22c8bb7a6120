-- Four entries in a word, and a row of such words written one by one. Assumes nothing.
use mathlib.Core.Bool.{Bool, true, false}
use mathlib.Core.List.{List}
use mathlib.Core.Logic.{◌⊎◌, inl, inr}
use mathlib.Core.Path.{◌≡◌, refl, sym, ◌∙◌, ap}
use Prim.Native.Nat.{ℕ, zero, suc, ◌+◌, ◌*◌, ◌/◌, ◌%◌, ◌<◌, ◌≤◌}
use native.Mathlib.Omega.{arith}
use borrow.Author.Tests.{ltb-true, ltb-false}
use lib.Dec.{ltb}
use lib.ListN.{length, get_or, set}
use lib.Seq.{get_or-set_same, get_or-set_other}
use Rattle.cache.specs.Slots.{entry_in}
use Rattle.cache.specs.Words.{Fours}

-- the first n entries of a row
abbrev pub Written : (row entries : List ℕ) → ℕ → Type 0
Written row entries n = (j : ℕ) → j < n → entry_in (get_or row (j / 4) 0) (j % 4) ≡ get_or entries j 0

-- one word more
pub written-more : (row entries : List ℕ) (k w : ℕ) → k < length row
    → Fours (get_or entries (4 * k) 0) (get_or entries (4 * k + 1) 0) (get_or entries (4 * k + 2) 0) (get_or entries (4 * k + 3) 0) w
    → Written row entries (4 * k) → Written (set row k w) entries (4 * (k + 1))
written-more row entries k w h four before j lt = by_place (ltb j (4 * k)) refl
  where
    here : (i : ℕ) → j / 4 ≡ k → j % 4 ≡ i → entry_in w i ≡ get_or entries (4 * k + i) 0 → entry_in (get_or (set row k w) (j / 4) 0) (j % 4) ≡ get_or entries j 0
    here i q r e =
        let n : j ≡ 4 * k + i = omega arith in
        rw (q, r, get_or-set_same row k w 0 h) (e ∙ ap (λ (n : ℕ). get_or entries n 0) (sym n))

    by_place : (t : Bool) → ltb j (4 * k) ≡ t → entry_in (get_or (set row k w) (j / 4) 0) (j % 4) ≡ get_or entries j 0
    by_place true e =
        let b : j < 4 * k = ltb-true j (4 * k) e in
        rw (get_or-set_other row k (j / 4) w 0 (λ (e : j / 4 ≡ k). omega arith)) (before j b)
    by_place false e =
        let b : 4 * k ≤ j = ltb-false j (4 * k) e in
        let q : j / 4 ≡ k = omega arith in
        by-digit q (digit-of (j % 4) (omega arith))
      where
        digit-of : (i : ℕ) → i < 4 → (i ≡ 0) ⊎ ((i ≡ 1) ⊎ ((i ≡ 2) ⊎ (i ≡ 3)))
        digit-of zero l = inl refl
        digit-of (suc zero) l = inr (inl refl)
        digit-of (suc (suc zero)) l = inr (inr (inl refl))
        digit-of (suc (suc (suc zero))) l = inr (inr (inr refl))
        digit-of (suc (suc (suc (suc i)))) l = absurd (omega arith)

        by-digit : j / 4 ≡ k → (j % 4 ≡ 0) ⊎ ((j % 4 ≡ 1) ⊎ ((j % 4 ≡ 2) ⊎ (j % 4 ≡ 3))) → entry_in (get_or (set row k w) (j / 4) 0) (j % 4) ≡ get_or entries j 0
        by-digit q (inl r) =
            let z : 4 * k ≡ 4 * k + 0 = omega arith in
            here 0 q r (four.first ∙ ap (λ (n : ℕ). get_or entries n 0) z)
        by-digit q (inr (inl r)) = here 1 q r four.second
        by-digit q (inr (inr (inl r))) = here 2 q r four.third
        by-digit q (inr (inr (inr r))) = here 3 q r four.fourth
