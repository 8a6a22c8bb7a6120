-- The depth of a record, child by child. Assumes nothing.
use mathlib.Core.Path.{◌≡◌, refl, sym, ◌∙◌, ap}
use mathlib.Core.Bool.{Bool, true, false}
use mathlib.Core.List.{List, [], ◌∷◌, map}
use Prim.Native.Nat.{ℕ, zero, suc, ◌+◌, ◌*◌, ◌<◌, ◌≤◌, max}
use native.Mathlib.Nat.{zero-max, max-zero, max-le}
use native.Mathlib.Numerals.{add-one}
use native.Mathlib.Omega.{arith}
use borrow.Author.Tests.{eqb-true, eqb-false}
use lib.Dec.{eqb}
use lib.ListN.{length, get_or, drop, drop_of_length-le}
use lib.Seq.{drop-cons}
use Rattle.policies.specs.Policy.{Policy, Policies, Unsatisfiable, Trivial, Key, Lock, Hash, And, Or, Thresh, end, ◌▹◌, to_list, depth}
use Rattle.policies.specs.Policy.{deepest, weight}
use Rattle.policies.specs.Forms.{nth, children_of}
use Rattle.policies.specs.Array.{words_from, children_at, count_at, record_policy, policy_at, Good, stored, child_number}
use Rattle.policies.specs.declared.Head.{Head}
use Rattle.policies.specs.Heads.{head_of}
use Rattle.policies.proofs.Views.{stored_is, stored-children, stored-below, child-is, child-falls}

max_assoc : (a b c : ℕ) → max (max a b) c ≡ max a (max b c)
max_assoc a b c = omega arith

-- the depth of the deepest of some policies
unfoldable pub deepest_in : List Policy → ℕ
deepest_in [] = 0
deepest_in (x ∷ xs) = max (depth x) (deepest_in xs)

deepest-list : (xs : Policies) → deepest xs ≡ deepest_in (to_list xs)
unfolding deepest deepest_in to_list
deepest-list end = refl
deepest-list (x ▹ xs) = ap (max (depth x)) (deepest-list xs)

-- a policy is one deeper than the deepest of its children
pub depth_is : (p : Policy) → depth p ≡ suc (deepest_in (children_of p))
unfolding depth deepest_in children_of
depth_is Unsatisfiable = refl
depth_is Trivial = refl
depth_is (Key n) = refl
depth_is (Lock kind n) = refl
depth_is (Hash kind n) = refl
depth_is (And l r) = ap (λ (d : ℕ). suc (max (depth l) d)) (sym (max-zero (depth r)))
depth_is (Or l r lw rw) = ap (λ (d : ℕ). suc (max (depth l) d)) (sym (max-zero (depth r)))
depth_is (Thresh k xs) = ap suc (deepest-list xs)

-- ---- a record's depth is at most one more than its number

deepest-few : (f : ℕ → Policy) (m : List ℕ) (at n b : ℕ) → ((j : ℕ) → j < n → depth (f (get_or m (at + j) 0)) ≤ b)
    → deepest_in (map f (words_from m at n)) ≤ b
unfolding deepest_in words_from
deepest-few f m at zero b h = omega arith
deepest-few f m at (suc n) b h =
    let e : at + 0 ≡ at = omega arith in
    max-le (rw e at (h 0 (omega arith))) (deepest-few f m (suc at) n b (λ j l. shifted j (h (suc j) (omega arith))))
  where
    shifted : (j : ℕ) → depth (f (get_or m (at + suc j) 0)) ≤ b → depth (f (get_or m (suc at + j) 0)) ≤ b
    shifted j h =
        let e : at + suc j ≡ suc at + j = omega arith in
        rw e at h

module _ (m : List ℕ) (g : Good m) where
  depth-row : (i b : ℕ) → i < 64 → ((c : ℕ) → c < i → depth (record_policy m c) ≤ b) → depth (record_policy m i) ≤ suc b
  depth-row i b h before =
      rw (depth_is (record_policy m i), stored-children m i g h)
      (let l : deepest_in (map (record_policy m) (children_at m i)) ≤ b =
      deepest-few (record_policy m) m (40 * i + 6) (count_at m i) b each in omega arith)
    where
      each : (j : ℕ) → j < count_at m i → depth (record_policy m (get_or m (40 * i + 6 + j) 0)) ≤ b
      each j l =
          let e : 40 * i + (6 + j) ≡ 40 * i + 6 + j = omega arith in
          before (get_or m (40 * i + 6 + j) 0) (rw e at (g.below i j h l))

  depth-rows : (n i : ℕ) → i < n → n ≤ 64 → depth (record_policy m i) ≤ n
  depth-rows zero i h l = absurd (omega arith)
  depth-rows (suc n) i h l = by-test (λ c k. depth-rows n c k (omega arith)) (eqb i n) refl
    where
      by-test : ((c : ℕ) → c < n → depth (record_policy m c) ≤ n) → (t : Bool) → eqb i n ≡ t → depth (record_policy m i) ≤ suc n
      by-test before true e =
          let same : i ≡ n = eqb-true i n e in
          rw same (depth-row n n (omega arith) before)
      by-test before false e =
          let ne = eqb-false i n e in
          let d = before i (omega arith) in
          omega arith

  pub depth-few : (i : ℕ) → i < 64 → depth (policy_at m i) ≤ 64
  depth-few i h = rw (stored_is m i h) (depth-rows 64 i h (omega arith))

-- ---- the loop over the children

-- what is still to come: with the children from j on the deepest so far becomes the deepest of all
pub record DepthInv (children : List Policy) (sofar j : ℕ) : Type 0 where
  pub within : j ≤ length children
  pub still : max sofar (deepest_in (drop j children)) ≡ deepest_in children

pub depth-starts : (children : List Policy) → DepthInv children 0 0
depth-starts children = record { within = omega arith; still = zero-max (deepest_in children) }

pub counted : (p : Policy) {h : Head} → h ≡ head_of p → h.count ≡ length (children_of p)
counted p e = ap (λ (h : Head). h.count) e

module _ (m : List ℕ) (i : ℕ) (g : Good m) (h : i < 64) where
  -- the call for child j
  pub depth_falls : (j n t : ℕ) {c : ℕ} → c ≡ child_number m i j → n ≡ length (children_of (policy_at m i)) → j < n → weight (policy_at m i) ≡ t
      → (weight (policy_at m c) < t) × (Good m × (c < 64))
  depth_falls j n t e k l w =
      let l' : j < length (children_of (policy_at m i)) = omega arith in
      let f : weight (policy_at m (child_number m i j)) < weight (policy_at m i) = child-falls m g i j (stored h) l' in
      let b : child_number m i j < i = stored-below m g i j h l' in
      rw e (omega arith, (g, omega arith))

  pub depth-more : (j n : ℕ) {c d sofar next : ℕ} → c ≡ child_number m i j → n ≡ length (children_of (policy_at m i)) → j < n
      → d ≡ depth (policy_at m c) → next ≡ max sofar d → DepthInv (children_of (policy_at m i)) sofar j
      → DepthInv (children_of (policy_at m i)) next (j + 1)
  unfolding deepest_in
  depth-more j n {c} {d} {sofar} {next} e k l p q inv =
      let children : List Policy = children_of (policy_at m i) in
      let l' : j < length children = omega arith in
      let first : d ≡ depth (nth children j) = p ∙ ap (λ (x : ℕ). depth (policy_at m x)) e ∙ ap depth (child-is m g i j (stored h) l').is in
      let split : drop j children ≡ nth children j ∷ drop (suc j) children = drop-cons children j Unsatisfiable l' in
      let all : max sofar (max (depth (nth children j)) (deepest_in (drop (suc j) children))) ≡ deepest_in children =
      rw split at inv.still in
      record {
        within = omega arith;
        still = rw (add-one j, q, first, max_assoc sofar (depth (nth children j)) (deepest_in (drop (suc j) children))) all;
      }

  pub depth-done : (j n : ℕ) {sofar : ℕ} → n ≡ length (children_of (policy_at m i)) → n ≤ j → DepthInv (children_of (policy_at m i)) sofar j
      → sofar + 1 ≡ depth (policy_at m i)
  unfolding deepest_in
  depth-done j n {sofar} k l inv =
      let children : List Policy = children_of (policy_at m i) in
      let none : drop j children ≡ [] = drop_of_length-le children {i = j} (omega arith) in
      let all : max sofar 0 ≡ deepest_in children = rw none at inv.still in
      add-one sofar ∙ ap suc (sym (max-zero sofar) ∙ all) ∙ sym (depth_is (policy_at m i))
