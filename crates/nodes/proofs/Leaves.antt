-- A leaf of the code, whose first child is the number of a record, stands for the definition's leaf of that record's policy, and it may be
-- offered to a table. Assumes nothing.
use mathlib.Core.Path.{◌≡◌, refl, sym, ◌∙◌, ap}
use mathlib.Core.List.{List, ◌∷◌, map}
use Rattle.std.specs.Prelude.{Option, None, Some}
use Prim.Native.Nat.{ℕ, ◌≤◌}
use lib.ListN.{length}
use Rattle.contexts.specs.declared.Context.{Context}
use Rattle.contexts.specs.declared.Context.TheVariants.{Segwitv0, Tap}
use Rattle.contexts.specs.Leaves.{After, Older, Sha256, Hash256, Ripemd160, Hash160}
use Rattle.figures.proofs.Entering as entering
use Rattle.policies.specs.Policy.{Policy, Policies, end, ◌▹◌, to_list, Unsatisfiable, Trivial, Key, Lock, Hash, And, Or, Thresh}
use Rattle.policies.specs.Forms.{number_of, k_of, children_of}
use Rattle.policies.specs.Array.{policy_at}
use Rattle.trees.specs.Fragment as tree
use Rattle.trees.specs.Fragment.{Fragment}
use Rattle.trees.specs.Tree.{find}
use Rattle.definition.specs.Candidates as definition
use Rattle.definition.specs.Search as definition-search
use Rattle.definition.specs.Search.{policy_of, key_or, searcher, searchers}
use Rattle.candidates.specs.declared.Candidate.{Candidate}
use Rattle.candidates.specs.Leaves.{false_candidate, true_candidate, pk_k, pk_h, after, older, sha256, hash256, ripemd160, hash160, multi, multi_a}
use Rattle.trees.specs.Height.{max_height}
use Rattle.nodes.specs.Views.{tree_of, seen_as, all_nodes, offered, keys_of}
use Rattle.nodes.specs.Offers.{Offerable}
use Rattle.nodes.proofs.Offers.{plain-offers}

-- ---- what a leaf stands for

by-tree : (pol m : List ℕ) (x : Candidate) {f : Fragment} → tree_of pol m (all_nodes pol m) x ≡ f
    → offered pol m x ≡ definition.candidate f x.ty x.ext x.cost
unfolding seen_as
by-tree pol m x is = ap (λ (g : Fragment). definition.candidate g x.ty x.ext x.cost) is

module _ (pol m : List ℕ) where
  pub false-seen : offered pol m false_candidate ≡ definition.false'
  unfolding tree_of find
  false-seen = by-tree pol m false_candidate refl

  pub true-seen : offered pol m true_candidate ≡ definition.true'
  unfolding tree_of find
  true-seen = by-tree pol m true_candidate refl

  module _ (held : ℕ) {n : ℕ} where
    pub pk-k-seen : (c : Context) → policy_at pol held ≡ Key n → offered pol m (pk_k c held) ≡ definition.pk_k c n
    unfolding tree_of find number_of
    pk-k-seen Segwitv0 is = by-tree pol m (pk_k Segwitv0 held) (ap (λ (p : Policy). tree.PkK (number_of p)) is)
    pk-k-seen Tap is = by-tree pol m (pk_k Tap held) (ap (λ (p : Policy). tree.PkK (number_of p)) is)

    pub pk-h-seen : (c : Context) → policy_at pol held ≡ Key n → offered pol m (pk_h c held) ≡ definition.pk_h c n
    unfolding tree_of find number_of
    pk-h-seen Segwitv0 is = by-tree pol m (pk_h Segwitv0 held) (ap (λ (p : Policy). tree.PkH (number_of p)) is)
    pk-h-seen Tap is = by-tree pol m (pk_h Tap held) (ap (λ (p : Policy). tree.PkH (number_of p)) is)

    pub after-seen : policy_at pol held ≡ Lock After n → offered pol m (after n held) ≡ definition.lock After n
    unfolding tree_of find number_of
    after-seen is = by-tree pol m (after n held) (ap (λ (p : Policy). tree.Lock After (number_of p)) is)

    pub older-seen : policy_at pol held ≡ Lock Older n → offered pol m (older n held) ≡ definition.lock Older n
    unfolding tree_of find number_of
    older-seen is = by-tree pol m (older n held) (ap (λ (p : Policy). tree.Lock Older (number_of p)) is)

    pub sha256-seen : policy_at pol held ≡ Hash Sha256 n → offered pol m (sha256 held) ≡ definition.hash Sha256 n
    unfolding tree_of find number_of
    sha256-seen is = by-tree pol m (sha256 held) (ap (λ (p : Policy). tree.Hash Sha256 (number_of p)) is)

    pub hash256-seen : policy_at pol held ≡ Hash Hash256 n → offered pol m (hash256 held) ≡ definition.hash Hash256 n
    unfolding tree_of find number_of
    hash256-seen is = by-tree pol m (hash256 held) (ap (λ (p : Policy). tree.Hash Hash256 (number_of p)) is)

    pub ripemd160-seen : policy_at pol held ≡ Hash Ripemd160 n → offered pol m (ripemd160 held) ≡ definition.hash Ripemd160 n
    unfolding tree_of find number_of
    ripemd160-seen is = by-tree pol m (ripemd160 held) (ap (λ (p : Policy). tree.Hash Ripemd160 (number_of p)) is)

    pub hash160-seen : policy_at pol held ≡ Hash Hash160 n → offered pol m (hash160 held) ≡ definition.hash Hash160 n
    unfolding tree_of find number_of
    hash160-seen is = by-tree pol m (hash160 held) (ap (λ (p : Policy). tree.Hash Hash160 (number_of p)) is)

  -- k of the children, all of which are keys
  module _ (held : ℕ) {k : ℕ} {xs : Policies} {keys : List ℕ} (is : policy_at pol held ≡ Thresh k xs) (all : map number_of (to_list xs) ≡ keys) where
    of-keys : (f : ℕ → List ℕ → Fragment) → f (k_of (policy_at pol held)) (keys_of (policy_at pol held)) ≡ f k keys
    unfolding k_of children_of
    of-keys f = ap (λ (p : Policy). f (k_of p) (keys_of p)) is ∙ ap (λ (ns : List ℕ). f k ns) all

    pub multi-seen : offered pol m (multi k (length keys) held) ≡ definition.multi Segwitv0 k keys
    unfolding tree_of find
    multi-seen = by-tree pol m (multi k (length keys) held) (of-keys tree.Multi)

    pub multi-a-seen : offered pol m (multi_a k (length keys) held) ≡ definition.multi Tap k keys
    unfolding tree_of find
    multi-a-seen = by-tree pol m (multi_a k (length keys) held) (of-keys tree.MultiA)

-- the definition's keys of a Thresh are the numbers of its children

searched : (c : Context) (x : Policy) → policy_of (searcher c x) ≡ x
unfolding searcher
searched c Unsatisfiable = refl
searched c Trivial = refl
searched c (Key n) = refl
searched c (Lock kind n) = refl
searched c (Hash kind n) = refl
searched c (And l r) = refl
searched c (Or l r lw rw) = refl
searched c (Thresh k xs) = refl

key-first : (x : Policy) (rest : Option (List ℕ)) (ns keys : List ℕ) → ((ks : List ℕ) → rest ≡ Some ks → ns ≡ ks) → key_or x rest ≡ Some keys
    → number_of x ∷ ns ≡ keys
unfolding number_of
key-first (Key n) None ns keys others is = cc
key-first (Key n) (Some ks) ns keys others is = ap (λ (l : List ℕ). n ∷ l) (others ks refl) ∙ cc
key-first Unsatisfiable rest ns keys others is = cc
key-first Trivial rest ns keys others is = cc
key-first (Lock kind n) rest ns keys others is = cc
key-first (Hash kind n) rest ns keys others is = cc
key-first (And l r) rest ns keys others is = cc
key-first (Or l r lw rw) rest ns keys others is = cc
key-first (Thresh k xs) rest ns keys others is = cc

pub keys-are : (c : Context) (xs : Policies) (keys : List ℕ) → definition-search.keys_of (searchers c xs) ≡ Some keys → map number_of (to_list xs) ≡ keys
unfolding definition-search.keys_of searchers to_list
keys-are c end keys is = cc
keys-are c (x ▹ xs) keys is =
    key-first x (definition-search.keys_of (searchers c xs)) (map number_of (to_list xs)) keys (λ ks. keys-are c xs ks)
    (ap (λ (p : Policy). key_or p (definition-search.keys_of (searchers c xs))) (sym (searched c x)) ∙ is)

-- ---- a leaf may be offered

module _ (m : List ℕ) where
  pub false-offers : Offerable m false_candidate
  false-offers = plain-offers (entering.entered-candidate (entering.false-entered max_height)) refl

  pub true-offers : Offerable m true_candidate
  true-offers = plain-offers (entering.entered-candidate (entering.true-entered max_height)) refl

  pub pk-k-offers : (c : Context) (held : ℕ) → Offerable m (pk_k c held)
  pk-k-offers c held = plain-offers (entering.pk-k-candidate max_height c) refl

  pub pk-h-offers : (c : Context) (held : ℕ) → Offerable m (pk_h c held)
  pk-h-offers c held = plain-offers (entering.pk-h-candidate max_height c) refl

  pub after-offers : (t held : ℕ) → Offerable m (after t held)
  after-offers t held = plain-offers (entering.after-candidate max_height t) refl

  pub older-offers : (t held : ℕ) → Offerable m (older t held)
  older-offers t held = plain-offers (entering.older-candidate max_height t) refl

  pub sha256-offers : (held : ℕ) → Offerable m (sha256 held)
  sha256-offers held = plain-offers (entering.sha256-candidate max_height) refl

  pub hash256-offers : (held : ℕ) → Offerable m (hash256 held)
  hash256-offers held = plain-offers (entering.hash256-candidate max_height) refl

  pub ripemd160-offers : (held : ℕ) → Offerable m (ripemd160 held)
  ripemd160-offers held = plain-offers (entering.ripemd160-candidate max_height) refl

  pub hash160-offers : (held : ℕ) → Offerable m (hash160 held)
  hash160-offers held = plain-offers (entering.hash160-candidate max_height) refl

  pub multi-offers : (k n held : ℕ) → k ≤ n → n ≤ 16 → Offerable m (multi k n held)
  multi-offers k n held le few = plain-offers (entering.multi-candidate max_height k n le few) refl

  pub multi-a-offers : (k n held : ℕ) → 1 ≤ k → k ≤ n → n ≤ 16 → Offerable m (multi_a k n held)
  multi-a-offers k n held one le few = plain-offers (entering.multi-a-candidate max_height k n one le few) refl
