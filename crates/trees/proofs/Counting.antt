-- Counting free slots decides whether records are left unused: a record takes as many as it has children and adds its own, and where one
-- slot is free at the end, it is the last. Assumes nothing.
use Prim.Native.Nat.{ℕ, zero, suc, ◌+◌, ◌-◌, ◌≤◌}
use mathlib.Core.Bool.{cond}
use mathlib.Core.List.{List, [], ◌∷◌, ◌++◌}
use Rattle.std.specs.Prelude.{Option, None, Some}
use mathlib.Core.Path.{◌≡◌, refl, ◌∙◌}
use native.Mathlib.Omega.{arith}
use borrow.Author.Tests.{ne_eqb}
use lib.Dec.{eqb}
use lib.ListN.{length, get_or, set, length-append}
use lib.Seq.{get_or-append_seam}
use Rattle.trees.specs.Reading.{Slots, Taken, and_first, take_all, root_of}
use Rattle.trees.specs.WorkMemory.{free_in}
use Rattle.trees.proofs.Slots.{IfSome}

module _ {A : Type 0} where
  pub free-le : (slots : Slots A) → free_in slots ≤ length slots
  unfolding free_in
  free-le [] = omega arith
  free-le (None ∷ slots) = omega (arith, free-le slots)
  free-le (Some x ∷ slots) = omega (arith, free-le slots)

  pub free_more : (slots : Slots A) (x : A) → free_in (slots ++ (Some x ∷ [])) ≡ free_in slots + 1
  unfolding free_in
  free_more [] x = refl
  free_more (None ∷ slots) x = free_more slots x
  free_more (Some y ∷ slots) x = omega (arith, free_more slots x)

  free-set : (slots : Slots A) (j : ℕ) (x : A) → get_or slots j None ≡ Some x → free_in (set slots j None) + 1 ≡ free_in slots
  unfolding free_in
  free-set [] zero x e = absurd (let z : ◌≡◌ {A = ℕ} 0 1 = cc in omega arith)
  free-set [] (suc j) x e = absurd (let z : ◌≡◌ {A = ℕ} 0 1 = cc in omega arith)
  free-set (None ∷ slots) zero x e = absurd (let z : ◌≡◌ {A = ℕ} 0 1 = cc in omega arith)
  free-set (Some y ∷ slots) zero x e = omega arith
  free-set (None ∷ slots) (suc j) x e = free-set slots j x e
  free-set (Some y ∷ slots) (suc j) x e = omega (arith, free-set slots j x e)

  first-free : (n m k : ℕ) (o : Option A) (r : Option (Taken A)) → ((x : A) → o ≡ Some x → m + 1 ≡ n)
      → IfSome (λ t. free_in t.left + k ≡ m) r → IfSome (λ t. free_in t.left + suc k ≡ n) (and_first o r)
  first-free n m k (Some x) (Some t) f h = omega (arith, f x refl)
  first-free n m k (Some x) None f h = tt
  first-free n m k None r f h = tt

  -- as many free slots less as children are taken
  pub free-taken : (js : List ℕ) (slots : Slots A) → IfSome (λ t. free_in t.left + length js ≡ free_in slots) (take_all js slots)
  unfolding take_all
  free-taken [] slots = omega arith
  free-taken (j ∷ js) slots =
      first-free (free_in slots) (free_in (set slots j None)) (length js) (get_or slots j None) (take_all js (set slots j None))
      (λ x e. free-set slots j x e) (free-taken js (set slots j None))

  -- ---- the root by the number of free slots

  abbrev pub last_of : Slots A → Option A
  last_of slots = get_or slots (length slots - 1) None

  -- the root is the last slot if one slot is free, and there is none otherwise
  abbrev pub RootByCount : Slots A → Type 0
  RootByCount slots = root_of slots ≡ cond (eqb (free_in slots) 1) (last_of slots) None

  pub count_none : RootByCount []
  unfolding root_of free_in
  count_none = refl

  root-last : (slots : Slots A) (x : A) → root_of (slots ++ (Some x ∷ [])) ≡ cond (eqb (free_in slots) 0) (Some x) None
  unfolding root_of free_in
  root-last [] x = refl
  root-last (None ∷ []) x = refl
  root-last (None ∷ o ∷ slots) x = root-last (o ∷ slots) x
  root-last (Some y ∷ []) x = refl
  root-last (Some y ∷ o ∷ slots) x = rw (ne_eqb (1 + free_in (o ∷ slots)) 0 (λ e. omega arith))

  last_more : (slots : Slots A) (x : A) → last_of (slots ++ (Some x ∷ [])) ≡ Some x
  last_more slots x =
      let e : length (slots ++ (Some x ∷ [])) - 1 ≡ length slots = omega (arith, length-append slots (Some x ∷ [])) in
      rw e (get_or-append_seam slots (Some x) [] None)

  pub count-more : (slots : Slots A) (x : A) → RootByCount (slots ++ (Some x ∷ []))
  count-more slots x = root-last slots x ∙ rw (last_more slots x, free_more slots x) (same_test (free_in slots))
    where
      same_test : (n : ℕ) → cond (eqb n 0) (Some x) None ≡ cond (eqb (n + 1) 1) (Some x) None
      same_test zero = refl
      same_test (suc n) = rw (ne_eqb (suc n) 0 (λ e. omega arith), ne_eqb (suc n + 1) 1 (λ e. omega arith))
