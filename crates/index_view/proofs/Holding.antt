-- The loops over an index. Assumes nothing.
use Prim.Native.Nat.{ℕ, suc, ◌+◌, ◌-◌, ◌≤◌, ◌<◌}
use mathlib.Core.Bool.{Bool, true, false, cond}
use mathlib.Core.List.{List}
use mathlib.Core.Path.{◌≡◌, refl, sym, ap, ◌∙◌}
use native.Mathlib.Omega.{arith}
use lib.Dec.{ltb}
use borrow.Author.Tests.{le-leb, lt-leb}
use Rattle.index_view.specs.View.{count, first_in, length_in, holds, first_holding, innermost, holding, depth}

module _ (index : List ℕ) (i at : ℕ) {first : ℕ} (begins : first ≡ first_in index i) where
  pub not_yet : at < first → false ≡ holds index i at
  unfolding holds
  not_yet before = rw (sym begins, lt-leb first at before)

  pub maybe : {long : ℕ} → long ≡ length_in index i → first ≤ at → ltb at (first + long) ≡ holds index i at
  unfolding holds
  maybe lasts after = rw (sym begins, sym lasts, le-leb first at after)

-- one record more, of those that are left
one_more : (n i : ℕ) → i < n → n - i ≡ suc (n - (i + 1))
one_more n i l = omega arith

module _ (index : List ℕ) (at i : ℕ) where
  holding-suc : (more : ℕ) → holding index at i (suc more) ≡ cond (holds index i at) 1 0 + holding index at (i + 1) more
  unfolding holding
  holding-suc more = refl

  first-suc : (more : ℕ) → first_holding index at i (suc more) ≡ cond (holds index i at) i (first_holding index at (i + 1) more)
  unfolding first_holding
  first-suc more = refl

  module _ {n : ℕ} (l : i < n) where
    first_step : first_holding index at i (n - i) ≡ cond (holds index i at) i (first_holding index at (i + 1) (n - (i + 1)))
    first_step = ap (first_holding index at i) (one_more n i l) ∙ first-suc (n - (i + 1))

    holding-step : holding index at i (n - i) ≡ cond (holds index i at) 1 0 + holding index at (i + 1) (n - (i + 1))
    holding-step = ap (holding index at i) (one_more n i l) ∙ holding-suc (n - (i + 1))

    pub found_here : {r : Bool} → r ≡ holds index i at → r ≡ true → first_holding index at i (n - i) ≡ i
    found_here is told = first_step ∙ rw (sym is ∙ told)

    pub found-later : {r : Bool} → r ≡ holds index i at → r ≡ false → first_holding index at i (n - i) ≡ first_holding index at (i + 1) (n - (i + 1))
    found-later is told = first_step ∙ rw (sym is ∙ told)

    -- one record more is counted
    pub counted-on : (deep : ℕ) {d x : ℕ} {r : Bool} → r ≡ holds index i at → x ≡ cond r 1 0 → deep + holding index at i (n - i) ≡ d
        → (deep + x) + holding index at (i + 1) (n - (i + 1)) ≡ d
    counted-on deep {x = x} is one sum =
        let its : x ≡ cond (holds index i at) 1 0 = one ∙ ap (λ (b : Bool). cond {A = ℕ} b 1 0) is in
        omega (arith, its, holding-step, sum)

  none_left : {n : ℕ} → n ≤ i → n - i ≡ 0
  none_left l = omega arith

  pub none_found : {n : ℕ} → n ≤ i → first_holding index at i (n - i) ≡ i
  unfolding first_holding
  none_found l = ap (first_holding index at i) (none_left l)

  pub none-counted : {n : ℕ} → n ≤ i → holding index at i (n - i) ≡ 0
  unfolding holding
  none-counted l = ap (holding index at i) (none_left l)

-- ---- where the loops begin

module _ (index : List ℕ) {n : ℕ} (all : n ≡ count index) where
  pub from-none : (at : ℕ) → first_holding index at 0 (n - 0) ≡ innermost index at
  from-none at =
      let same : n - 0 ≡ count index = omega (arith, all) in
      ap (first_holding index at 0) same

  pub all-ahead : (i at : ℕ) → 0 + holding index at (i + 1) (n - (i + 1)) ≡ depth index i at
  all-ahead i at =
      let same : holding index at (i + 1) (n - (i + 1)) ≡ depth index i at = ap (λ (m : ℕ). holding index at (i + 1) (m - (i + 1))) all in
      omega (arith, same)
