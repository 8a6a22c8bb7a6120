-- Laws on slots: two rows of slots side by side, and what holds of some free slot, past the taking of children and at the root.
-- Assumes nothing.
use Prim.Native.Nat.{ℕ, zero, suc}
use mathlib.Core.List.{List, [], ◌∷◌, ◌++◌}
use mathlib.Core.Logic.{◌⊎◌, inl, inr, ⊎_elim}
use Rattle.std.specs.Prelude.{Option, None, Some}
use mathlib.Core.Path.{◌≡◌, refl, ap}
use native.Mathlib.Omega.{arith}
use lib.ListN.{length, get_or, set}
use Rattle.trees.specs.Reading.{Slots, Taken, and_first, take_all, root_of}

-- of every element; of some element; of two lists, element by element

pub data All {A : Type 0} (P : A → Type 0) : List A → Type 0 where
  empty : All P []
  both : {x : A} {xs : List A} → P x → All P xs → All P (x ∷ xs)

pub data Any {A : Type 0} (P : A → Type 0) : List A → Type 0 where
  here : {x : A} {xs : List A} → P x → Any P (x ∷ xs)
  there : {x : A} {xs : List A} → Any P xs → Any P (x ∷ xs)

pub data Pairs {A B : Type 0} (R : A → B → Type 0) : List A → List B → Type 0 where
  empty : Pairs R [] []
  pair : {x : A} {y : B} {xs : List A} {ys : List B} → R x y → Pairs R xs ys → Pairs R (x ∷ xs) (y ∷ ys)

-- what holds if there is something; of a slot that is free; of two slots that are both free or both taken

abbrev pub IfSome : {A : Type 0} → (A → Type 0) → Option A → Type 0
IfSome P None = Unit
IfSome P (Some x) = P x

abbrev pub Free : {A : Type 0} → (A → Type 0) → Option A → Type 0
Free P None = ⊥
Free P (Some x) = P x

abbrev pub Alike : {A B : Type 0} → (A → B → Type 0) → Option A → Option B → Type 0
Alike R None None = Unit
Alike R None (Some y) = ⊥
Alike R (Some x) None = ⊥
Alike R (Some x) (Some y) = R x y

-- ---- some free slot

module _ {A : Type 0} (P : A → Type 0) where
  pub any-more : {l : List A} (y : A) → Any P l → Any P (l ++ (y ∷ []))
  any-more y (here p) = here p
  any-more y (there p) = there (any-more y p)

  pub any_last : (l : List A) {y : A} → P y → Any P (l ++ (y ∷ []))
  any_last [] p = here p
  any_last (x ∷ l) p = there (any_last l p)

module _ {A : Type 0} (P : A → Type 0) where
  abbrev pub AnyTaken : Taken A → Type 0
  AnyTaken t = Any P t.those ⊎ Any (Free P) t.left

  first_any : (o : Option A) (r : Option (Taken A)) → Free P o → IfSome AnyTaken (and_first o r)
  first_any (Some x) (Some t) p = inl (here p)
  first_any (Some x) None p = tt
  first_any None r p = tt

  later-any : (o : Option A) (r : Option (Taken A)) → IfSome AnyTaken r → IfSome AnyTaken (and_first o r)
  later-any (Some x) (Some t) p = ⊎_elim (λ q. inl (there q)) (λ q. inr q) p
  later-any (Some x) None p = tt
  later-any None r p = tt

  -- a free slot is the one that is taken, or is free afterwards
  any-set : (slots : Slots A) (j : ℕ) → Any (Free P) slots → Free P (get_or slots j None) ⊎ Any (Free P) (set slots j None)
  any-set [] j p = elim p [ ]
  any-set (o ∷ slots) zero (here p) = inl p
  any-set (o ∷ slots) zero (there p) = inr (there p)
  any-set (o ∷ slots) (suc j) (here p) = inr (here p)
  any-set (o ∷ slots) (suc j) (there p) = ⊎_elim (λ q. inl q) (λ q. inr (there q)) (any-set slots j p)

  -- what holds of some free slot holds of some child taken or of some slot left
  pub take-any : (js : List ℕ) (slots : Slots A) → Any (Free P) slots → IfSome AnyTaken (take_all js slots)
  unfolding take_all
  take-any [] slots p = inr p
  take-any (j ∷ js) slots p =
      ⊎_elim (λ q. first_any (get_or slots j None) (take_all js (set slots j None)) q)
      (λ q. later-any (get_or slots j None) (take_all js (set slots j None)) (take-any js (set slots j None) q))
      (any-set slots j p)

  -- and of the root
  pub root-any : (slots : Slots A) → Any (Free P) slots → IfSome P (root_of slots)
  unfolding root_of
  root-any [] p = tt
  root-any (None ∷ []) p = tt
  root-any (Some x ∷ []) (here p) = p
  root-any (Some x ∷ []) (there p) = elim p [ ]
  root-any (None ∷ o ∷ slots) (here p) = elim p [ ]
  root-any (None ∷ o ∷ slots) (there p) = root-any (o ∷ slots) p
  root-any (Some x ∷ o ∷ slots) p = tt

-- ---- two rows of slots

module _ {A B : Type 0} (R : A → B → Type 0) where
  pub pairs-length : {xs : List A} {ys : List B} → Pairs R xs ys → length xs ≡ length ys
  pairs-length empty = refl
  pairs-length (pair p ps) = ap suc (pairs-length ps)

  pub pairs-more : {xs : List A} {ys : List B} {x : A} {y : B} → Pairs R xs ys → R x y → Pairs R (xs ++ (x ∷ [])) (ys ++ (y ∷ []))
  pairs-more empty r = pair r empty
  pairs-more (pair q qs) r = pair q (pairs-more qs r)

  pairs-get_d : {xs : List A} {ys : List B} {x : A} {y : B} → Pairs R xs ys → R x y → (j : ℕ) → R (get_or xs j x) (get_or ys j y)
  pairs-get_d empty r zero = r
  pairs-get_d empty r (suc j) = r
  pairs-get_d (pair q qs) r zero = q
  pairs-get_d (pair q qs) r (suc j) = pairs-get_d qs r j

  pairs_set : {xs : List A} {ys : List B} {x : A} {y : B} → Pairs R xs ys → R x y → (j : ℕ) → Pairs R (set xs j x) (set ys j y)
  pairs_set empty r zero = empty
  pairs_set empty r (suc j) = empty
  pairs_set (pair q qs) r zero = pair r qs
  pairs_set (pair q qs) r (suc j) = pair q (pairs_set qs r j)

module _ {A B : Type 0} (R : A → B → Type 0) where
  abbrev pub PairsTaken : Taken A → Taken B → Type 0
  PairsTaken s t = Pairs R s.those t.those × Pairs (Alike R) s.left t.left

  first-pairs : (o : Option A) (o' : Option B) (r : Option (Taken A)) (r' : Option (Taken B)) → Alike R o o' → Alike PairsTaken r r'
      → Alike PairsTaken (and_first o r) (and_first o' r')
  first-pairs (Some x) (Some y) (Some s) (Some t) p q = (pair p q.0, q.1)
  first-pairs (Some x) (Some y) (Some s) None p q = q
  first-pairs (Some x) (Some y) None (Some t) p q = q
  first-pairs (Some x) (Some y) None None p q = tt
  first-pairs (Some x) None r r' p q = absurd p
  first-pairs None (Some y) r r' p q = absurd p
  first-pairs None None r r' p q = tt

  -- children taken from two rows of slots are alike, and so are the slots left
  pub take-pairs : (js : List ℕ) (s : Slots A) (t : Slots B) → Pairs (Alike R) s t → Alike PairsTaken (take_all js s) (take_all js t)
  unfolding take_all
  take-pairs [] s t ps = (empty, ps)
  take-pairs (j ∷ js) s t ps =
      first-pairs (get_or s j None) (get_or t j None) (take_all js (set s j None)) (take_all js (set t j None))
      (pairs-get_d (Alike R) ps tt j)
      (take-pairs js (set s j None) (set t j None) (pairs_set (Alike R) ps tt j))

  -- and the roots
  pub root-pairs : (s : Slots A) (t : Slots B) → Pairs (Alike R) s t → Alike R (root_of s) (root_of t)
  unfolding root_of
  root-pairs [] [] empty = tt
  root-pairs [] (o' ∷ t) p = elim p [ ]
  root-pairs (o ∷ []) [] p = elim p [ ]
  root-pairs (o ∷ u ∷ s) [] p = elim p [ ]
  root-pairs (o ∷ []) (o' ∷ []) (pair p empty) = p
  root-pairs (o ∷ []) (o' ∷ v ∷ t) (pair p q) = absurd (omega (arith, pairs-length (Alike R) q))
  root-pairs (o ∷ u ∷ s) (o' ∷ []) (pair p q) = absurd (omega (arith, pairs-length (Alike R) q))
  root-pairs (o ∷ u ∷ s) (o' ∷ v ∷ t) (pair p (pair q qs)) = by_first o o' p (root-pairs (u ∷ s) (v ∷ t) (pair q qs))
    where
      by_first : (o : Option A) (o' : Option B) → Alike R o o' → Alike R (root_of (u ∷ s)) (root_of (v ∷ t))
          → Alike R (root_of (o ∷ u ∷ s)) (root_of (o' ∷ v ∷ t))
      by_first None None p r = r
      by_first None (Some y) p r = absurd p
      by_first (Some x) None p r = absurd p
      by_first (Some x) (Some y) p r = tt
