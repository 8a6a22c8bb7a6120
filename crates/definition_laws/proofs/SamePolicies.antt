-- Two policies are the same exactly if they are equal.
use mathlib.Core.Bool.{Bool, true, false, ◌&&◌, false≢true}
use mathlib.Core.List.{List, [], ◌∷◌}
use mathlib.Core.Path.{◌≡◌, refl, sym, ap, ◌∙◌}
use Prim.Native.Nat.{ℕ}
use borrow.Author.Tests.{eqb-true, eq-eqb}
use lib.Dec.{eqb}
use Rattle.contexts.specs.Leaves.{After, Older, Sha256, Hash256, Ripemd160, Hash160}
use Rattle.policies.specs.Policy.{Policy, Policies, end, ◌▹◌, Unsatisfiable, Trivial, Key, Lock, Hash, And, Or, Thresh, to_list, from_list}
use Rattle.policies.specs.Forms.{made, nth, kind_of, number_of, k_of, left_weight_of, right_weight_of, children_of}
use Rattle.policies.proofs.Forms.{made_again}
use Rattle.definition.specs.SamePolicy.{alike, same, same_all}

-- ---- equal policies are the same

and_intro : {a b : Bool} → a ≡ true → b ≡ true → a && b ≡ true
and_intro p q = rw (p, q)

number-self : (n : ℕ) → eqb n n ≡ true
number-self n = eq-eqb n n refl

alike_self : (q : Policy) → alike q q ≡ true
alike_self q =
    and_intro (number-self (kind_of q))
    (and_intro (number-self (number_of q))
    (and_intro (number-self (k_of q))
    (and_intro (number-self (left_weight_of q)) (number-self (right_weight_of q)))))

mutual
  unfolding same children_of to_list

  pub same_self : (q : Policy) → same q q ≡ true
  same_self Unsatisfiable = alike_self Unsatisfiable
  same_self Trivial = alike_self Trivial
  same_self (Key n) = alike_self (Key n)
  same_self (Lock kind n) = alike_self (Lock kind n)
  same_self (Hash kind n) = alike_self (Hash kind n)
  same_self (And l r) = and_intro (alike_self (And l r)) (and_intro (same_self l) (same_self r))
  same_self (Or l r lw rw) = and_intro (alike_self (Or l r lw rw)) (and_intro (same_self l) (same_self r))
  same_self (Thresh k xs) = and_intro (alike_self (Thresh k xs)) (same-all-self xs)

  same-all-self : (xs : Policies) → same_all xs (to_list xs) ≡ true
  same-all-self end = refl
  same-all-self (x ▹ xs) = and_intro (same_self x) (same-all-self xs)

-- ---- the same policies are equal

both : (a b : Bool) → a && b ≡ true → (a ≡ true) × (b ≡ true)
both true b h = (refl, h)
both false b h = absurd (false≢true h)

-- a policy that is like q is made as q is, of its own children
made_alike : (q r : Policy) → alike q r ≡ true
    → made (kind_of q) (number_of q) (k_of q) (left_weight_of q) (right_weight_of q) (children_of r) ≡ r
made_alike q r h =
    let a = both (eqb (kind_of q) (kind_of r)) _ h in
    let b = both (eqb (number_of q) (number_of r)) _ a.1 in
    let c = both (eqb (k_of q) (k_of r)) _ b.1 in
    let d = both (eqb (left_weight_of q) (left_weight_of r)) _ c.1 in
    let kind : kind_of q ≡ kind_of r = eqb-true _ _ a.0 in
    let number : number_of q ≡ number_of r = eqb-true _ _ b.0 in
    let k : k_of q ≡ k_of r = eqb-true _ _ c.0 in
    let left : left_weight_of q ≡ left_weight_of r = eqb-true _ _ d.0 in
    let right : right_weight_of q ≡ right_weight_of r = eqb-true _ _ d.1 in
    rw (kind, number, k, left, right) (made_again r)

and-equal : {l l' r r' : Policy} → l ≡ l' → r ≡ r' → And l r ≡ And l' r'
and-equal p q = rw (p, q)

or-equal : {l l' r r' : Policy} {v w : ℕ} → l ≡ l' → r ≡ r' → Or l r v w ≡ Or l' r' v w
or-equal p q = rw (p, q)

cons-equal : {x x' : Policy} {xs xs' : Policies} → x ≡ x' → xs ≡ xs' → x ▹ xs ≡ x' ▹ xs'
cons-equal p q = rw (p, q)

mutual
  unfolding same made kind_of number_of k_of left_weight_of right_weight_of from_list

  pub same-equal : (q r : Policy) → same q r ≡ true → q ≡ r
  same-equal Unsatisfiable r h = made_alike Unsatisfiable r h
  same-equal Trivial r h = made_alike Trivial r h
  same-equal (Key n) r h = made_alike (Key n) r h
  same-equal (Lock After n) r h = made_alike (Lock After n) r h
  same-equal (Lock Older n) r h = made_alike (Lock Older n) r h
  same-equal (Hash Sha256 n) r h = made_alike (Hash Sha256 n) r h
  same-equal (Hash Hash256 n) r h = made_alike (Hash Hash256 n) r h
  same-equal (Hash Ripemd160 n) r h = made_alike (Hash Ripemd160 n) r h
  same-equal (Hash Hash160 n) r h = made_alike (Hash Hash160 n) r h
  same-equal (And x y) r h =
      let b = both (alike (And x y) r) _ h in
      let s = both (same x (nth (children_of r) 0)) _ b.1 in
      and-equal (same-equal x _ s.0) (same-equal y _ s.1) ∙ made_alike (And x y) r b.0
  same-equal (Or x y v w) r h =
      let b = both (alike (Or x y v w) r) _ h in
      let s = both (same x (nth (children_of r) 0)) _ b.1 in
      or-equal (same-equal x _ s.0) (same-equal y _ s.1) ∙ made_alike (Or x y v w) r b.0
  same-equal (Thresh k xs) r h =
      let b = both (alike (Thresh k xs) r) _ h in
      ap (Thresh k) (same-all-equal xs (children_of r) b.1) ∙ made_alike (Thresh k xs) r b.0

  same-all-equal : (xs : Policies) (ys : List Policy) → same_all xs ys ≡ true → xs ≡ from_list ys
  same-all-equal end [] h = refl
  same-all-equal end (y ∷ ys) h = absurd (false≢true h)
  same-all-equal (x ▹ xs) [] h = absurd (false≢true h)
  same-all-equal (x ▹ xs) (y ∷ ys) h =
      let b = both (same x y) (same_all xs ys) h in
      cons-equal (same-equal x y b.0) (same-all-equal xs ys b.1)

-- so what is not equal is not the same
pub same_not : (q r : Policy) → (q ≡ r → ⊥) → same q r ≡ false
same_not q r n = by-test (same q r) refl
  where
    by-test : (b : Bool) → same q r ≡ b → b ≡ false
    by-test true h = absurd (n (same-equal q r h))
    by-test false h = refl
