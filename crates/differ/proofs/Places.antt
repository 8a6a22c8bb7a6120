-- The differences are the first places on the paths where the trees differ, and none lies below another. Assumes nothing.
use Prim.Native.Nat.{ℕ, zero, suc}
use mathlib.Core.Bool.{Bool, true, false, ◌&&◌, cond}
use mathlib.Core.List.{List, [], ◌∷◌, ◌++◌}
use mathlib.Core.Logic.{◌⊎◌, inl, inr, ⊎_elim}
use mathlib.Core.Path.{◌≡◌, refl, sym, ◌∙◌}
use native.Mathlib.Omega.{arith}
use Rattle.differ.specs.Numbered.{Numbered, NumberedList, node, end, ◌▹◌}
use Rattle.differ.specs.Differences.{Difference, same_head, same_count, differences, differences_in}
use Rattle.differ.specs.Laws.{Path, FirstAt, FirstIn, Listed, ListsFirstPlaces, NoneBelow}

-- ---- what is listed in two lists

listed-left : (d : Difference) (ds es : List Difference) → Listed d ds → Listed d (ds ++ es)
unfolding Listed
listed-left d [] es l = absurd l
listed-left d (x ∷ ds) es l = ⊎_elim (λ e. inl e) (λ r. inr (listed-left d ds es r)) l

listed-right : (d : Difference) (ds es : List Difference) → Listed d es → Listed d (ds ++ es)
unfolding Listed
listed-right d [] es l = l
listed-right d (x ∷ ds) es l = inr (listed-right d ds es l)

listed-either : (d : Difference) (ds es : List Difference) → Listed d (ds ++ es) → Listed d ds ⊎ Listed d es
unfolding Listed
listed-either d [] es l = inr l
listed-either d (x ∷ ds) es l = ⊎_elim (λ e. inl (inl e)) (λ r. ⊎_elim (λ q. inl (inr q)) (λ q. inr q) (listed-either d ds es r)) l

only : (d e : Difference) → Listed d (e ∷ []) → d ≡ e
unfolding Listed
only d e l = ⊎_elim (λ s. s) (λ r. absurd r) l

listed-one : (d e : Difference) → d ≡ e → Listed d (e ∷ [])
unfolding Listed
listed-one d e s = inl s

listed-if : (b : Bool) (d e : Difference) (ds : List Difference) {P : Type 0} → Listed d (cond b ds (e ∷ [])) → (b ≡ true → Listed d ds → P)
    → (b ≡ false → d ≡ e → P) → P
listed-if true d e ds l p q = p refl l
listed-if false d e ds l p q = q refl (only d e l)

-- ---- the places

mutual
  unfolding differences differences_in FirstAt FirstIn Listed

  place_of : (t u : Numbered) (d : Difference) → Listed d (differences t u) → (p : Path) × FirstAt t u p d
  place_of (node i h xs) (node j g ys) d l =
      listed-if (same_head h g && same_count xs ys) d (record { left = i; right = j }) (differences_in xs ys) l
      (λ b m. let r = place_in xs ys d m in (r.0 ∷ r.1, (b, r.2)))
      (λ b e. ([], (b, e)))

  place_in : (xs ys : NumberedList) (d : Difference) → Listed d (differences_in xs ys) → (c : ℕ) × (p : Path) × FirstIn xs ys c p d
  place_in end ys d l = absurd l
  place_in (x ▹ xs) end d l = absurd l
  place_in (x ▹ xs) (y ▹ ys) d l =
      ⊎_elim (λ m. let r = place_of x y d m in (0, r.0, r.1)) (λ m. let r = place_in xs ys d m in (suc r.0, r.1, r.2))
      (listed-either d (differences x y) (differences_in xs ys) l)

listed-true : (b : Bool) (d e : Difference) (ds : List Difference) → b ≡ true → Listed d ds → Listed d (cond b ds (e ∷ []))
listed-true true d e ds s l = l
listed-true false d e ds s l = absurd (let z : ◌≡◌ {A = ℕ} 0 1 = cc in omega arith)

listed-false : (b : Bool) (d e : Difference) (ds : List Difference) → b ≡ false → d ≡ e → Listed d (cond b ds (e ∷ []))
listed-false true d e ds s l = absurd (let z : ◌≡◌ {A = ℕ} 0 1 = cc in omega arith)
listed-false false d e ds s l = listed-one d e l

mutual
  unfolding differences differences_in FirstAt FirstIn

  listed_at : (t u : Numbered) (p : Path) (d : Difference) → FirstAt t u p d → Listed d (differences t u)
  listed_at (node i h xs) (node j g ys) [] d f =
      listed-false (same_head h g && same_count xs ys) d (record { left = i; right = j }) (differences_in xs ys) f.0 f.1
  listed_at (node i h xs) (node j g ys) (c ∷ p) d f =
      listed-true (same_head h g && same_count xs ys) d (record { left = i; right = j }) (differences_in xs ys) f.0 (listed_in xs ys c p d f.1)

  listed_in : (xs ys : NumberedList) (c : ℕ) (p : Path) (d : Difference) → FirstIn xs ys c p d → Listed d (differences_in xs ys)
  listed_in end ys c p d f = absurd f
  listed_in (x ▹ xs) end c p d f = absurd f
  listed_in (x ▹ xs) (y ▹ ys) zero p d f = listed-left d (differences x y) (differences_in xs ys) (listed_at x y p d f)
  listed_in (x ▹ xs) (y ▹ ys) (suc c) p d f = listed-right d (differences x y) (differences_in xs ys) (listed_in xs ys c p d f)

pub lists-first-places : ListsFirstPlaces
lists-first-places t u d = (place_of t u d, λ f. listed_at t u f.0 d f.1)

-- ---- none below another

both_ways : {b : Bool} → b ≡ false → b ≡ true → ⊥
both_ways e f = let z : ◌≡◌ {A = Bool} true false = sym f ∙ e in absurd (let z : ◌≡◌ {A = ℕ} 0 1 = cc in omega arith)

mutual
  unfolding FirstAt FirstIn

  pub none_below : NoneBelow
  none_below (node i h xs) (node j g ys) [] q c d e f k = both_ways f.0 k.0
  none_below (node i h xs) (node j g ys) (b ∷ p) q c d e f k = none-below-in xs ys b p q c d e f.1 k.1

  none-below-in : (xs ys : NumberedList) (b : ℕ) (p q : Path) (c : ℕ) (d e : Difference) → FirstIn xs ys b p d → FirstIn xs ys b (p ++ (c ∷ q)) e → ⊥
  none-below-in end ys b p q c d e f k = f
  none-below-in (x ▹ xs) end b p q c d e f k = f
  none-below-in (x ▹ xs) (y ▹ ys) zero p q c d e f k = none_below x y p q c d e f k
  none-below-in (x ▹ xs) (y ▹ ys) (suc b) p q c d e f k = none-below-in xs ys b p q c d e f k
