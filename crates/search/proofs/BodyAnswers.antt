-- What the answers of `search`, `body`, `leaves`, `and_body`, `or_body` and `and_ors` cite besides the other files. Assumes nothing.
use Rattle.std.specs.Prelude.{Option}
use mathlib.Core.Path.{◌≡◌, refl, sym, ap, ◌∙◌, subst}
use mathlib.Core.List.{List}
use Prim.Native.Nat.{ℕ, ◌<◌, ◌≤◌}
use native.Mathlib.Omega.{arith}
use lib.Ieee.{Float}
use lib.ListN.{length, take}
use Rattle.contexts.specs.Leaves.{After, Older, Sha256, Hash256, Ripemd160, Hash160}
use Rattle.policies.proofs.Forms.{is-or}
use Rattle.policies.specs.Policy.{Policy, Unsatisfiable, Trivial, Key, Lock, Hash, And, Or, Thresh}
use Rattle.policies.specs.Forms.{kind_of, k_of, left_weight_of, right_weight_of, children_of}
use Rattle.policies.specs.Heads.{head_of}
use Rattle.policies.specs.declared.Head.{Head}
use Rattle.policies.specs.Array.{policy_at, count_at, Good, Named, stored, folds, child_number}
use Rattle.writing.specs.WellFormed.{IsU32}
use Rattle.definition_laws.specs.FormedPolicy.{FormedPolicy}
use Rattle.candidates.specs.declared.Candidate.{Candidate}
use Rattle.nodes.specs.Offers.{Offerable}
use Rattle.offers.specs.Offering.{IsLeaf}
use Rattle.stages.specs.declared.Ask.{Ask}
use Rattle.stages.specs.declared.Pairing.{Pairing}
use Rattle.stages.specs.Stages.{and_asks, and_pairings, and_or_asks, and_or_pairings, or_asks, or_pairings}
use Rattle.costs.specs.declared.OrWeights.{OrWeights}
use Rattle.costs.specs.Weights.{weights}
use Rattle.definition.specs.Tables.{Table}
use Rattle.definition.specs.Refusals.{Res}
use Rattle.closure.specs.declared.Closed.{Closed}
use Rattle.search_state.specs.Recalled.{Tabled}
use Rattle.search_state.proofs.Chains.{tabled-more}
use Rattle.search.proofs.Bodies.{all-or-asks, all-or-pairings}
use Rattle.search.specs.Searching.{IsOr, IsThresh, AllLighter, AllPlaced, Under}
use Rattle.search.proofs.Asking.{under-child, under-under, and-lighter-of, or-lighter-of, and-or-lighter-of, thresh-bounds}
use Rattle.search.proofs.Asking.{and-placed, or-placed, and-or-placed}

-- ---- numbers that fit

pub named-low : {pol : List ℕ} {r : ℕ} → Good pol → Named pol r → r < 65536
named-low g (stored h) = omega arith
named-low {pol} g (folds i t e h u) =
    let few : count_at pol i ≤ 16 = g.rows.few i h in
    omega arith

-- ---- what a head tells

kind-few : (q : Policy) → kind_of q ≤ 12
unfolding kind_of
kind-few Unsatisfiable = omega arith
kind-few Trivial = omega arith
kind-few (Key n) = omega arith
kind-few (Lock After n) = omega arith
kind-few (Lock Older n) = omega arith
kind-few (Hash Sha256 n) = omega arith
kind-few (Hash Hash256 n) = omega arith
kind-few (Hash Ripemd160 n) = omega arith
kind-few (Hash Hash160 n) = omega arith
kind-few (And l r) = omega arith
kind-few (Or l r m n) = omega arith
kind-few (Thresh k xs) = omega arith

module _ {h : Head} (q : Policy) (is : h ≡ head_of q) where
  pub head-kind : {kind : ℕ} → h.kind ≡ kind → kind_of q ≡ kind
  head-kind e = sym (ap (λ (h : Head). h.kind) is) ∙ e

  pub head-other : {kind : ℕ} → (h.kind ≡ kind → ⊥) → kind_of q ≡ kind → ⊥
  head-other ne e = ne (ap (λ (h : Head). h.kind) is ∙ e)

  pub head-or : {left right : ℕ} → h.kind ≡ 11 → left ≡ h.left_weight → right ≡ h.right_weight → IsOr q left right
  head-or e l r =
      record {
        is_or = head-kind e;
        is_left = sym (ap (λ (h : Head). h.left_weight) is) ∙ sym l;
        is_right = sym (ap (λ (h : Head). h.right_weight) is) ∙ sym r;
      }

  -- its weights are u32, where those of the policy are
  pub head-low : IsU32 (left_weight_of q) × IsU32 (right_weight_of q) → IsU32 h.left_weight × IsU32 h.right_weight
  head-low low = (
    subst IsU32 (sym (ap (λ (h : Head). h.left_weight) is)) low.0,
    subst IsU32 (sym (ap (λ (h : Head). h.right_weight) is)) low.1,
  )

  pub head-thresh : {k n : ℕ} → h.kind ≡ 12 → k ≡ h.k → n ≡ h.count → IsThresh q k n
  head-thresh e k n =
      record {
        is_thresh = head-kind e;
        is_k = sym (ap (λ (h : Head). h.k) is) ∙ sym k;
        is_n = sym (ap (λ (h : Head). h.count) is) ∙ sym n;
      }

  pub head-leaf : (h.kind ≡ 10 → ⊥) → (h.kind ≡ 11 → ⊥) → (h.kind ≡ 12 → ⊥) → IsLeaf q h.kind h.number
  head-leaf a b c =
      let kind : h.kind ≡ kind_of q = ap (λ (h : Head). h.kind) is in
      let few : kind_of q ≤ 12 = kind-few q in
      record {
        is_kind = sym kind;
        is_number = sym (ap (λ (h : Head). h.number) is);
        low = omega arith;
      }

pub thresh-k-low : {pol : List ℕ} {r : ℕ} {h : Head} → Good pol → Named pol r → FormedPolicy (policy_at pol r) → h ≡ head_of (policy_at pol r)
    → h.kind ≡ 12 → h.k < 65536
thresh-k-low {pol} {r} {h} g named formed is e =
    let k : h.k ≡ k_of (policy_at pol r) = ap (λ (h : Head). h.k) is in
    let bounds : (1 ≤ k_of (policy_at pol r)) × (k_of (policy_at pol r) ≤ length (children_of (policy_at pol r)))
    × (length (children_of (policy_at pol r)) ≤ 16) =
    thresh-bounds g named (head-kind (policy_at pol r) is e) refl refl formed in
    omega (arith, bounds.1, bounds.2)

-- ---- a candidate that is known may be offered

pub offers-as : {m : List ℕ} {x y : Candidate} → x ≡ y → Offerable m y → Offerable m x
offers-as {m} e offers = subst (Offerable m) (sym e) offers

-- ---- what is under a number, by the numbers that were read

module _ {pol : List ℕ} (g : Good pol) {r : ℕ} (named : Named pol r) (formed : FormedPolicy (policy_at pol r)) {l q : ℕ}
    (left : l ≡ child_number pol r 0) (right : q ≡ child_number pol r 1) where
  pub two-under : length (children_of (policy_at pol r)) ≡ 2 → Under pol r l × Under pol r q
  two-under two = (
    subst (Under pol r) (sym left) (under-child g named formed 0 (omega arith)),
    subst (Under pol r) (sym right) (under-child g named formed 1 (omega arith)),
  )

-- ---- the asks and the pairings of stages

module _ {pol : List ℕ} {r : ℕ} (sat : Float) (dissat : Option Float) where
  pub and-asks-lighter : (l q : ℕ) {asks : List Ask} → asks ≡ and_asks l q sat dissat → Under pol r l × Under pol r q → AllLighter pol r dissat asks
  and-asks-lighter l q e u = subst (AllLighter pol r dissat) (sym e) (and-lighter-of sat dissat u.0 u.1)

  pub or-asks-lighter : (l q : ℕ) (w v : Float) {asks : List Ask} → asks ≡ or_asks l q sat dissat w v → Under pol r l × Under pol r q
      → AllLighter pol r dissat (take 8 asks)
  or-asks-lighter l q w v e u =
      subst (AllLighter pol r dissat) (sym (all-or-asks l q sat dissat w v e)) (or-lighter-of sat dissat w v u.0 u.1)

  pub and-or-asks-lighter : (x y other : ℕ) (w v : Float) {asks : List Ask} → asks ≡ and_or_asks x y other sat dissat w v → {a : ℕ} → Under pol r a
      → Under pol a x × Under pol a y → Under pol r other → AllLighter pol r dissat asks
  and-or-asks-lighter x y other w v e u two o =
      subst (AllLighter pol r dissat) (sym e) (and-or-lighter-of sat dissat w v (under-under u two.0) (under-under u two.1) o)

pub and-pairings-placed : {pairings : List Pairing} → pairings ≡ and_pairings → AllPlaced 4 pairings
and-pairings-placed e = subst (AllPlaced 4) (sym e) and-placed

pub or-pairings-placed : (w v : Float) {pairings : List Pairing} → pairings ≡ or_pairings w v → AllPlaced 8 (take 10 pairings)
or-pairings-placed w v e = subst (AllPlaced 8) (sym (all-or-pairings w v e)) (or-placed w v)

pub and-or-pairings-placed : (w v : Float) {pairings : List Pairing} → pairings ≡ and_or_pairings w v → AllPlaced 5 pairings
and-or-pairings-placed w v e = subst (AllPlaced 5) (sym e) (and-or-placed w v)

-- ---- the weights of an Or

module _ (l r : ℕ) {x : OrWeights} (is : x ≡ weights l r) where
  pub weights-left : x.lw ≡ (weights l r).lw
  weights-left = ap (λ (x : OrWeights). x.lw) is

  pub weights-right : x.rw ≡ (weights l r).rw
  weights-right = ap (λ (x : OrWeights). x.rw) is

-- ---- small steps

pub back : {A B : Type 0} → A × B → B × A
back h = (h.1, h.0)

pub leaf-key : {q : Policy} {kind number : ℕ} → IsLeaf q kind number → kind ≡ 3 → IsLeaf q 3 number
leaf-key {q} {kind} {number} h e = record { is_kind = h.is_kind ∙ e; is_number = h.is_number; low = omega arith }

pub tabled-one : {res : Res Table} {pol m₀ m : List ℕ} {c : Closed} → Tabled 0 res pol c m₀ m → Tabled 1 res pol c m₀ m
tabled-one h = tabled-more {a = 0} 1 (omega arith) h

-- the weights of an Or
pub or-weights : (q : Policy) → FormedPolicy q → kind_of q ≡ 11 → IsU32 (left_weight_of q) × IsU32 (right_weight_of q)
unfolding FormedPolicy
or-weights q formed e = (subst FormedPolicy (is-or q e) formed).2
