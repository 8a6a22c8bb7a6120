-- Numbers that stand for policies, and the places of their classes in the array. Assumes nothing.
use mathlib.Core.Path.{◌≡◌, refl, sym, ◌∙◌, ap}
use mathlib.Core.Bool.{Bool, true, false}
use mathlib.Core.List.{List}
use Prim.Native.Nat.{ℕ, ◌+◌, ◌-◌, ◌<◌, ◌≤◌}
use native.Mathlib.Omega.{arith}
use borrow.Author.Tests.{lt-ltb, le-ltb, ltb-true, ltb-false}
use lib.Dec.{ltb}
use lib.ListN.{length, get_or, get_or-eq_default}
use Rattle.policies.specs.Policy.{Policy}
use Rattle.policies.specs.Forms.{children_of}
use Rattle.policies.specs.Heads.{head_of}
use Rattle.policies.specs.declared.Head.{Head}
use Rattle.policies.specs.Array.{count_at, policy_at, and_number, of_record, place, Good, Named, stored, folds}
use Rattle.policies.proofs.Views.{stored_is, stored-count}
use Rattle.classes.specs.Classes.{Decides, class_place, class_at}
use Rattle.classes.proofs.Equal.{decides-yes, decides-no}

-- ---- which numbers stand for policies

-- the record and the place that a number tells
of_and : (i t : ℕ) {r : ℕ} → r ≡ and_number i t → t < 16 → (of_record r ≡ i) × (place r ≡ t)
of_and i t e h = (omega arith, omega arith)

module _ (m : List ℕ) (r : ℕ) (g : Good m) (past : 64 ≤ r) where
  pub past-named : 64 ≤ of_record r → Decides false (Named m r)
  past-named h = decides-no no
    where
      no : Named m r → ⊥
      no (stored l) = omega arith
      no (folds i t e l u) =
          let few : count_at m i ≤ 16 = g.rows.few i l in
          let is = of_and i t e (omega arith) in
          omega (arith, is.0)

  pub and-named : of_record r < 64 → {h : Head} → h ≡ head_of (policy_at m (of_record r)) → Decides (ltb (place r + 1) h.count) (Named m r)
  and-named l {h} e = by-test (ltb (place r + 1) h.count) refl
    where
      count-is : h.count ≡ count_at m (of_record r)
      count-is =
          ap (λ (x : Head). x.count) e
          ∙ ap (λ (p : Policy). length (children_of p)) (stored_is m (of_record r) l)
          ∙ stored-count m (of_record r) g l

      no : h.count ≤ place r + 1 → Named m r → ⊥
      no u (stored k) = omega arith
      no u (folds i t e k v) =
          let few : count_at m i ≤ 16 = g.rows.few i k in
          let is = of_and i t e (omega arith) in
          let same : count_at m (of_record r) ≡ count_at m i = ap (count_at m) is.0 in
          omega (arith, is.1, count-is)

      by-test : (t : Bool) → ltb (place r + 1) h.count ≡ t → Decides t (Named m r)
      by-test true q =
          let u : place r + 1 < h.count = ltb-true (place r + 1) h.count q in
          decides-yes (folds (of_record r) (place r) (omega arith) l (omega (arith, count-is)))
      by-test false q = decides-no (no (ltb-false (place r + 1) h.count q))

pub named-below : (m : List ℕ) (r : ℕ) → Good m → Named m r → r < 1088
named-below m r g (stored h) = omega arith
named-below m r g (folds i t e h u) =
    let few : count_at m i ≤ 16 = g.rows.few i h in
    omega arith

-- ---- the class that the array has

module _ (m : List ℕ) (r : ℕ) where
  pub class-found : r < 1088 → {at : ℕ} → at ≡ class_place r → get_or m at 0 ≡ class_at m r
  unfolding class_at
  class-found h e = rw (lt-ltb r 1088 h, e)

  pub class-short : r < 1088 → {at : ℕ} → at ≡ class_place r → length m ≤ at → 0 ≡ class_at m r
  class-short h {at} e l = sym (get_or-eq_default m 0 {n = at} l) ∙ class-found h e

  pub class-past : 1088 ≤ r → 0 ≡ class_at m r
  unfolding class_at
  class-past h = rw (le-ltb r 1088 h)
