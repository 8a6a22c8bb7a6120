-- The weighted size of a record, child by child. Assumes nothing.
use mathlib.Core.Path.{◌≡◌, refl, sym, ◌∙◌, ap}
use mathlib.Core.Bool.{Bool, true, false}
use mathlib.Core.List.{List, [], ◌∷◌}
use Prim.Native.Nat.{ℕ, suc, ◌+◌, ◌*◌, ◌<◌, ◌≤◌}
use native.Mathlib.Numerals.{add-one}
use native.Mathlib.Omega.{arith}
use borrow.Author.Tests.{eqb-true, eqb-false}
use lib.Dec.{eqb}
use lib.ListN.{length, drop, drop_of_length-le}
use lib.Seq.{drop-cons}
use Rattle.policies.specs.Policy.{Policy, Unsatisfiable, Trivial, Key, Lock, Hash, And, Or, Thresh, from_list, weight, weights}
use Rattle.policies.specs.Forms.{nth, kind_of, children_of}
use Rattle.policies.specs.Array.{policy_at, Good, stored, child_number}
use Rattle.policies.specs.declared.Head.{Head}
use Rattle.policies.specs.Heads.{head_of}
use Rattle.policies.proofs.Forms.{is-thresh}
use Rattle.policies.proofs.Views.{stored-below, child-is, child-falls}

-- what some policies weigh together
unfoldable pub weights_in : List Policy → ℕ
weights_in [] = 0
weights_in (x ∷ xs) = weight x + weights_in xs

weights-list : (xs : List Policy) → weights (from_list xs) ≡ weights_in xs + 2 * length xs
unfolding weights weights_in from_list
weights-list [] = refl
weights-list (x ∷ xs) =
    let h : weights (from_list xs) ≡ weights_in xs + 2 * length xs = weights-list xs in
    omega arith

-- a policy weighs 1 more than its children, and a Thresh 2 more for each of them
pub weight-thresh : (p : Policy) → kind_of p ≡ 12 → weight p ≡ 1 + weights_in (children_of p) + 2 * length (children_of p)
unfolding weight weights
weight-thresh p e =
    let h : weights (from_list (children_of p)) ≡ weights_in (children_of p) + 2 * length (children_of p) = weights-list (children_of p) in
    ap weight (is-thresh p e) ∙ omega arith

pub weight-other : (p : Policy) → (kind_of p ≡ 12 → ⊥) → weight p ≡ 1 + weights_in (children_of p)
unfolding weight weights_in children_of kind_of
weight-other Unsatisfiable ne = refl
weight-other Trivial ne = refl
weight-other (Key n) ne = refl
weight-other (Lock kind n) ne = refl
weight-other (Hash kind n) ne = refl
weight-other (And l r) ne = omega arith
weight-other (Or l r lw rw) ne = omega arith
weight-other (Thresh k xs) ne = absurd (ne refl)

-- so it weighs between 1 more than its children, and that with 2 for each of them
pub weight-between : (p : Policy)
    → (1 + weights_in (children_of p) ≤ weight p) × (weight p ≤ 1 + weights_in (children_of p) + 2 * length (children_of p))
weight-between p = by-test (eqb (kind_of p) 12) refl
  where
    by-test : (t : Bool) → eqb (kind_of p) 12 ≡ t
        → (1 + weights_in (children_of p) ≤ weight p) × (weight p ≤ 1 + weights_in (children_of p) + 2 * length (children_of p))
    by-test true e = let w = weight-thresh p (eqb-true (kind_of p) 12 e) in (omega arith, omega arith)
    by-test false e = let w = weight-other p (eqb-false (kind_of p) 12 e) in (omega arith, omega arith)

-- ---- the loop over the children

-- what is still to come: with the children from j on the sum so far becomes 1 and what all children weigh
pub record SizeInv (children : List Policy) (sofar j : ℕ) : Type 0 where
  pub within : j ≤ length children
  pub still : sofar + weights_in (drop j children) ≡ 1 + weights_in children

pub size-starts : (children : List Policy) → SizeInv children 1 0
size-starts children = record { within = omega arith; still = refl }

pub kind-told : (p : Policy) {h : Head} → h ≡ head_of p → h.kind ≡ kind_of p
kind-told p e = ap (λ (h : Head). h.kind) e

module _ (m : List ℕ) (i : ℕ) (g : Good m) (h : i < 64) where
  -- the call for child j
  pub size-falls : (j n t : ℕ) {c : ℕ} → c ≡ child_number m i j → n ≡ length (children_of (policy_at m i)) → j < n → weight (policy_at m i) ≡ t
      → weight (policy_at m i) ≤ 190 → (weight (policy_at m c) < t) × (Good m × ((c < 64) × (weight (policy_at m c) ≤ 190)))
  size-falls j n t e k l w top =
      let l' : j < length (children_of (policy_at m i)) = omega arith in
      let f : weight (policy_at m (child_number m i j)) < weight (policy_at m i) = child-falls m g i j (stored h) l' in
      let b : child_number m i j < i = stored-below m g i j h l' in
      rw e (omega arith, (g, (omega arith, omega arith)))

  module _ (j n : ℕ) {sofar : ℕ} (k : n ≡ length (children_of (policy_at m i))) (inv : SizeInv (children_of (policy_at m i)) sofar j) where
    module _ {c w : ℕ} (e : c ≡ child_number m i j) (l : j < n) (q : w ≡ weight (policy_at m c)) where
      one-child : sofar + (w + weights_in (drop (suc j) (children_of (policy_at m i)))) ≡ 1 + weights_in (children_of (policy_at m i))
      unfolding weights_in
      one-child =
          let children : List Policy = children_of (policy_at m i) in
          let l' : j < length children = omega arith in
          let first : w ≡ weight (nth children j) = q ∙ ap (λ (x : ℕ). weight (policy_at m x)) e ∙ ap weight (child-is m g i j (stored h) l').is in
          let split : drop j children ≡ nth children j ∷ drop (suc j) children = drop-cons children j Unsatisfiable l' in
          let all : sofar + (weight (nth children j) + weights_in (drop (suc j) children)) ≡ 1 + weights_in children = rw split at inv.still in
          rw first all

      -- the sum is within what the policy weighs
      pub size-within : sofar + w ≤ weight (policy_at m i)
      size-within =
          let all = one-child in
          let least = (weight-between (policy_at m i)).0 in
          omega arith

      pub size-more : SizeInv (children_of (policy_at m i)) (sofar + w) (j + 1)
      size-more =
          let all = one-child in
          record { within = omega arith; still = rw (add-one j) (omega arith) }

    module _ (l : n ≤ j) where
      all-children : sofar ≡ 1 + weights_in (children_of (policy_at m i))
      unfolding weights_in
      all-children =
          let children : List Policy = children_of (policy_at m i) in
          let none : drop j children ≡ [] = drop_of_length-le children {i = j} (omega arith) in
          let all : sofar + 0 ≡ 1 + weights_in children = rw none at inv.still in
          omega arith

      pub size-thresh : {kind : ℕ} → kind ≡ kind_of (policy_at m i) → kind ≡ 12 → sofar + 2 * n ≡ weight (policy_at m i)
      size-thresh e t =
          let all = all-children in
          let w = weight-thresh (policy_at m i) (sym e ∙ t) in
          omega arith

      pub size-other : {kind : ℕ} → kind ≡ kind_of (policy_at m i) → (kind ≡ 12 → ⊥) → sofar ≡ weight (policy_at m i)
      size-other e ne = all-children ∙ sym (weight-other (policy_at m i) (λ t. ne (e ∙ t)))
