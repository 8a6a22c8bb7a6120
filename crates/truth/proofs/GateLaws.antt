-- What a fragment or a policy means is 'at least so many of its places'. Assumes nothing.
use Prim.Native.Nat.{ℕ, ◌+◌, ◌-◌, ◌≤◌, ◌<◌}
use mathlib.Core.Bool.{Bool, true, false, cond, ◌&&◌, ◌||◌}
use mathlib.Core.List.{List, [], ◌∷◌, map}
use mathlib.Core.Logic.{◌⊎◌, inl, inr}
use Rattle.std.specs.Prelude.{Some}
use mathlib.Core.Path.{◌≡◌, refl, ap, ◌∙◌}
use native.Mathlib.Omega.{arith}
use borrow.Author.Tests.{eqb-true}
use lib.Dec.{eqb, leb}
use Rattle.contexts.specs.Lists.{one}
use Rattle.contexts.specs.Leaves.{After, Older, Sha256, Hash256, Ripemd160, Hash160}
use Rattle.policies.specs.Policy as policy
use Rattle.policies.specs.Policy.{Policy, Policies, Unsatisfiable, Trivial, Key, And, Or}
use Rattle.policies.specs.Forms as forms
use Rattle.trees.specs.Fragment.{Fragments, end, ◌▹◌, to_list, False, True, PkK, PkH, Lock, Hash}
use Rattle.trees.specs.Fragment.{Alt, Swap, Check, DupIf, Verify, NonZero, ZeroNotEqual}
use Rattle.trees.specs.Fragment.{AndB, AndV, OrB, OrD, OrC, OrI, AndOr, Thresh, Multi, MultiA}
use Rattle.trees.specs.Tree.{Line, ◌is◌, find}
use Rattle.walk.specs.Heads.{Head, head_of, children_in}
use Rattle.walk.specs.Folds.{ByChildren}
use Rattle.meaning.specs.Meaning.{key, lock, hash, Assignment, count_true, policy_means, policies_mean, tree_means, trees_mean}
use Rattle.variables.specs.declared.Var.{Var}
use Rattle.variables.specs.Gathering.{code, key_code, codes_in}
use Rattle.truth.specs.Words.{bit_at, word_for, assigned}
use Rattle.truth.specs.Gates.{or_else, tree_gate, policy_gate, places_true, own_bits}

-- ---- few places

leaf1 : (b : Bool) → b ≡ leb 1 (0 + (0 + (one b + 0)))
leaf1 true = refl
leaf1 false = refl

same1 : (b : Bool) → b ≡ leb 1 (0 + ((one b + 0) + 0))
same1 true = refl
same1 false = refl

and2 : (a b : Bool) → a && b ≡ leb 2 (0 + ((one a + (one b + 0)) + 0))
and2 true true = refl
and2 true false = refl
and2 false true = refl
and2 false false = refl

or2 : (a b : Bool) → a || b ≡ leb 1 (0 + ((one a + (one b + 0)) + 0))
or2 true true = refl
or2 true false = refl
or2 false true = refl
or2 false false = refl

and-or3 : (a b c : Bool) → (a && b) || c ≡ leb 2 (one c + ((one a + (one b + (one c + 0))) + 0))
and-or3 true true true = refl
and-or3 true true false = refl
and-or3 true false true = refl
and-or3 true false false = refl
and-or3 false true true = refl
and-or3 false true false = refl
and-or3 false false true = refl
and-or3 false false false = refl

many : (k n : ℕ) → leb k n ≡ leb k (0 + (n + 0))
many k n =
    let e : 0 + (n + 0) ≡ n = omega arith in
    rw e

many-own : (k n : ℕ) → leb k n ≡ leb k (0 + (0 + n))
many-own k n =
    let e : 0 + (0 + n) ≡ n = omega arith in
    rw e

-- ---- a tree

module _ (row : List Var) (words : List ℕ) (j : ℕ) where
  abbrev pub a : Assignment
  a = assigned row words j

  abbrev pub step : Head → List Bool → Bool
  step h xs = leb (tree_gate h.kind h.k) (places_true h.kind (own_bits row words j (codes_in h)) xs)

  trees-list : (xs : Fragments) → trees_mean a xs ≡ map (tree_means a) (to_list xs)
  unfolding trees_mean to_list
  trees-list end = refl
  trees-list (x ▹ xs) = ap (λ (l : List Bool). tree_means a x ∷ l) (trees-list xs)

  keys-list : (ks : List ℕ) → map (λ n. a (key n)) ks ≡ own_bits row words j (map key_code ks)
  keys-list [] = refl
  keys-list (k ∷ ks) = ap (λ (l : List Bool). a (key k) ∷ l) (keys-list ks)

  pub tree-gates : ByChildren (tree_means a) step
  unfolding tree_means head_of children_in find count_true
  tree-gates False = refl
  tree-gates True = refl
  tree-gates (PkK n) = leaf1 (a (key n))
  tree-gates (PkH n) = leaf1 (a (key n))
  tree-gates (Lock After n) = leaf1 (a (lock After n))
  tree-gates (Lock Older n) = leaf1 (a (lock Older n))
  tree-gates (Hash Sha256 n) = leaf1 (a (hash Sha256 n))
  tree-gates (Hash Hash256 n) = leaf1 (a (hash Hash256 n))
  tree-gates (Hash Ripemd160 n) = leaf1 (a (hash Ripemd160 n))
  tree-gates (Hash Hash160 n) = leaf1 (a (hash Hash160 n))
  tree-gates (Alt x) = same1 (tree_means a x)
  tree-gates (Swap x) = same1 (tree_means a x)
  tree-gates (Check x) = same1 (tree_means a x)
  tree-gates (DupIf x) = same1 (tree_means a x)
  tree-gates (Verify x) = same1 (tree_means a x)
  tree-gates (NonZero x) = same1 (tree_means a x)
  tree-gates (ZeroNotEqual x) = same1 (tree_means a x)
  tree-gates (AndB x y) = and2 (tree_means a x) (tree_means a y)
  tree-gates (AndV x y) = and2 (tree_means a x) (tree_means a y)
  tree-gates (OrB x y) = or2 (tree_means a x) (tree_means a y)
  tree-gates (OrD x y) = or2 (tree_means a x) (tree_means a y)
  tree-gates (OrC x y) = or2 (tree_means a x) (tree_means a y)
  tree-gates (OrI x y) = or2 (tree_means a x) (tree_means a y)
  tree-gates (AndOr x y z) = and-or3 (tree_means a x) (tree_means a y) (tree_means a z)
  tree-gates (Thresh k xs) = ap (λ (l : List Bool). leb k (count_true l)) (trees-list xs) ∙ many k (count_true (map (tree_means a) (to_list xs)))
  tree-gates (Multi k ks) = ap (λ (l : List Bool). leb k (count_true l)) (keys-list ks) ∙ many-own k (count_true (own_bits row words j (map key_code ks)))
  tree-gates (MultiA k ks) = ap (λ (l : List Bool). leb k (count_true l)) (keys-list ks) ∙ many-own k (count_true (own_bits row words j (map key_code ks)))

-- ---- a policy

both2 : (a b : Bool) → a && b ≡ leb 2 (one a + (one b + 0))
both2 true true = refl
both2 true false = refl
both2 false true = refl
both2 false false = refl

either2 : (a b : Bool) → a || b ≡ leb 1 (one a + (one b + 0))
either2 true true = refl
either2 true false = refl
either2 false true = refl
either2 false false = refl

module _ (a : Assignment) where
  policies-list : (xs : Policies) → policies_mean a xs ≡ map (policy_means a) (policy.to_list xs)
  unfolding policies_mean policy.to_list
  policies-list policy.end = refl
  policies-list (policy.◌▹◌ x xs) = ap (λ (l : List Bool). policy_means a x ∷ l) (policies-list xs)

  pub policy-gates : (p : Policy) → (forms.kind_of p < 3) ⊎ (10 ≤ forms.kind_of p)
      → policy_means a p ≡ leb (policy_gate (forms.kind_of p) (forms.k_of p)) (count_true (map (policy_means a) (forms.children_of p)))
  unfolding policy_means forms.kind_of forms.k_of forms.children_of find count_true
  policy-gates Unsatisfiable h = refl
  policy-gates Trivial h = refl
  policy-gates (Key n) (inl h) = absurd (omega arith)
  policy-gates (Key n) (inr h) = absurd (omega arith)
  policy-gates (policy.Lock After n) (inl h) = absurd (omega arith)
  policy-gates (policy.Lock After n) (inr h) = absurd (omega arith)
  policy-gates (policy.Lock Older n) (inl h) = absurd (omega arith)
  policy-gates (policy.Lock Older n) (inr h) = absurd (omega arith)
  policy-gates (policy.Hash Sha256 n) (inl h) = absurd (omega arith)
  policy-gates (policy.Hash Sha256 n) (inr h) = absurd (omega arith)
  policy-gates (policy.Hash Hash256 n) (inl h) = absurd (omega arith)
  policy-gates (policy.Hash Hash256 n) (inr h) = absurd (omega arith)
  policy-gates (policy.Hash Ripemd160 n) (inl h) = absurd (omega arith)
  policy-gates (policy.Hash Ripemd160 n) (inr h) = absurd (omega arith)
  policy-gates (policy.Hash Hash160 n) (inl h) = absurd (omega arith)
  policy-gates (policy.Hash Hash160 n) (inr h) = absurd (omega arith)
  policy-gates (And x y) h = both2 (policy_means a x) (policy_means a y)
  policy-gates (Or x y lw rw) h = either2 (policy_means a x) (policy_means a y)
  policy-gates (policy.Thresh k xs) h = ap (λ (l : List Bool). leb k (count_true l)) (policies-list xs)

-- a leaf
pub policy-leaf : (row : List Var) (words : List ℕ) (j : ℕ) (p : Policy) → 3 ≤ forms.kind_of p → forms.kind_of p < 10
    → bit_at (word_for row words (code (forms.kind_of p - 3) (forms.number_of p))) j ≡ policy_means (assigned row words j) p
unfolding policy_means forms.kind_of forms.number_of
policy-leaf row words j Unsatisfiable l h = absurd (omega arith)
policy-leaf row words j Trivial l h = absurd (omega arith)
policy-leaf row words j (Key n) l h = refl
policy-leaf row words j (policy.Lock After n) l h = refl
policy-leaf row words j (policy.Lock Older n) l h = refl
policy-leaf row words j (policy.Hash Sha256 n) l h = refl
policy-leaf row words j (policy.Hash Hash256 n) l h = refl
policy-leaf row words j (policy.Hash Ripemd160 n) l h = refl
policy-leaf row words j (policy.Hash Hash160 n) l h = refl
policy-leaf row words j (And x y) l h = absurd (omega arith)
policy-leaf row words j (Or x y lw rw) l h = absurd (omega arith)
policy-leaf row words j (policy.Thresh k xs) l h = absurd (omega arith)

-- ---- no more places are asked than planes are there

data Each (P : ℕ → ℕ → Type 0) : List (Line ℕ) → Type 0 where
  none : Each P []
  line : {n x : ℕ} {ls : List (Line ℕ)} → P n x → Each P ls → Each P (n is x ∷ ls)

module _ (P : ℕ → Type 0) (kind : ℕ) where
  found : (d : ℕ) {ls : List (Line ℕ)} → P d → Each (λ n x. kind ≡ n → P x) ls → P (or_else d (find kind ls))
  unfolding find
  found d p none = p
  found d p (line {n} {x} {ls} q qs) = by-test (eqb kind n) refl (found d p qs)
    where
      by-test : (b : Bool) → eqb kind n ≡ b → P (or_else d (find kind ls)) → P (or_else d (cond b (Some x) (find kind ls)))
      by-test true e rest = q (eqb-true kind n e)
      by-test false e rest = rest

pub tree-gate-low : (kind k : ℕ) → (56 ≤ kind → k ≤ 16) → tree_gate kind k < 17
tree-gate-low kind k few =
    found (λ g. g < 17) kind 1 (omega arith)
    (line (λ e. omega arith) (line (λ e. omega arith) (line (λ e. omega arith) (line (λ e. omega arith)
    (line (λ e. omega (arith, few (omega arith))) (line (λ e. omega (arith, few (omega arith))) (line (λ e. omega (arith, few (omega arith))) none)))))))

pub policy-gate-low : (kind k : ℕ) → (kind ≡ 12 → k ≤ 16) → policy_gate kind k < 17
policy-gate-low kind k few =
    found (λ g. g < 17) kind 1 (omega arith)
    (line (λ e. omega arith) (line (λ e. omega arith) (line (λ e. omega (arith, few e)) none)))
