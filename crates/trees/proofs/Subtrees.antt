-- Laws on a record's children in their sixteen places: their types and the tallest of them, child by child; and on the record's own slot. Assumes
-- nothing.
use Rattle.refusals.specs.declared.Refusal.TheVariants as Refusal
use Prim.Native.Nat.{ℕ, zero, suc, max, ◌+◌, ◌-◌, ◌≤◌, ◌<◌}
use mathlib.Core.List.{List, [], ◌∷◌, ◌++◌, append_assoc, append-nil}
use Rattle.std.specs.Prelude.{Some, Ok, Err}
use mathlib.Core.Path.{◌≡◌, refl, sym, ap, ◌∙◌}
use native.Mathlib.Numerals.{add-one}
use native.Mathlib.Omega.{arith}
use lib.ListN.{length, get_or, set, take, drop, drop_of_length-le}
use lib.Seq.{take_all, take-suc-set, drop-cons}
use Rattle.types.specs.declared.«Type».{«Type»}
use Rattle.trees.specs.declared.Subtree.{Subtree}
use Rattle.trees.specs.Height.{max_height}
use Rattle.trees.specs.Rules.{types_of, tallest}
use Rattle.trees.specs.WorkMemory.{slots_in, Placed, placed, too_tall}

pub take-types : (n : ℕ) (xs : List Subtree) → take n (types_of xs) ≡ types_of (take n xs)
take-types zero xs = refl
take-types (suc n) [] = refl
take-types (suc n) (x ∷ xs) = ap (λ (ts : List «Type»). x.ty ∷ ts) (take-types n xs)

-- ---- the tallest

module _ (xs : List Subtree) (n : ℕ) where
  -- after i children: the tallest so far, with those still to come
  abbrev pub TallSoFar : (tall i : ℕ) → Type 0
  TallSoFar tall i = max tall (tallest (take (n - i) (drop i xs))) ≡ tallest (take n xs)

  pub tall-start : TallSoFar 0 0
  tall-start =
      let z : n - 0 ≡ n = omega arith in
      rw z (omega arith)

  pub tall-next : (d : Subtree) (tall tall' i : ℕ) → i < n → i < length xs → tall' ≡ max tall (get_or xs i d).height → TallSoFar tall i
      → TallSoFar tall' (i + 1)
  unfolding tallest
  tall-next d tall tall' i h l taller inv =
      let rest = take (n - (i + 1)) (drop (i + 1) xs) in
      let e : n - i ≡ suc (n - (i + 1)) = omega arith in
      let next : take (n - i) (drop i xs) ≡ get_or xs i d ∷ rest = rw (drop-cons xs i d l, e, add-one) in
      omega (arith, ap tallest next, taller, inv)

  pub tall-end : (tall i : ℕ) → n ≤ i → TallSoFar tall i → tall ≡ tallest (take n xs)
  unfolding tallest
  tall-end tall i h inv =
      let z : n - i ≡ 0 = omega arith in
      let none : tallest (take (n - i) (drop i xs)) ≡ 0 = rw z in
      omega (arith, none, inv)

-- ---- the types

module _ (xs : List Subtree) where
  -- after i places: the types so far, and those still to come
  abbrev pub TypesSoFar : (types : List «Type») (i : ℕ) → Type 0
  TypesSoFar types i = take i types ++ types_of (drop i xs) ≡ types_of xs

  pub types-next : (d : Subtree) (types : List «Type») (i : ℕ) → i < length xs → i < length types → TypesSoFar types i
      → TypesSoFar (set types i (get_or xs i d).ty) (i + 1)
  types-next d types i l m inv =
      let front : take (i + 1) (set types i (get_or xs i d).ty) ≡ take i types ++ ((get_or xs i d).ty ∷ []) = rw add-one (take-suc-set types i _ m) in
      let back : types_of (drop i xs) ≡ (get_or xs i d).ty ∷ types_of (drop (i + 1) xs) = rw (drop-cons xs i d l, add-one) in
      rw (front, append_assoc (take i types) ((get_or xs i d).ty ∷ []) (types_of (drop (i + 1) xs))) (ap (λ ts. take i types ++ ts) (sym back) ∙ inv)

  pub types-end : (types : List «Type») (i : ℕ) → length types ≤ i → length xs ≤ i → TypesSoFar types i → types ≡ types_of xs
  types-end types i l m inv =
      let front : take i types ≡ types = take_all i types l in
      let back : drop i xs ≡ [] = drop_of_length-le xs m in
      sym (append-nil types) ∙ sym (rw (front, back)) ∙ inv

-- ---- a record's own slot

module _ {work work' : List ℕ} {read : ℕ} {t : «Type»} {xs : List Subtree} {n below : ℕ} (is : below ≡ tallest xs) (same : length work' ≡ length work) where
  pub placed-low : below < max_height
      → slots_in work' (read + 1) ≡ slots_in work read ++ (Some (record { ty = t; height = below + 1 }) ∷ []) → Placed work work' read t xs n (Ok n)
  placed-low h more =
      placed (omega (arith, is)) same
      (more ∙ ap (λ (h : ℕ). slots_in work read ++ (Some (record { ty = t; height = h }) ∷ [])) (add-one below ∙ ap suc is))

  pub placed-tall : max_height ≤ below → Placed work work' read t xs n (Err Refusal.TreeTooTall)
  placed-tall h = too_tall (omega (arith, is)) same
