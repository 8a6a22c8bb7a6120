-- A policy is made of its parts, and what is made of a kind has these parts. Assumes nothing.
use mathlib.Core.Path.{◌≡◌, refl, sym, ◌∙◌, ap, subst}
use mathlib.Core.Bool.{Bool, true, false, cond}
use mathlib.Core.List.{List, [], ◌∷◌}
use Prim.Native.Nat.{ℕ, ◌<◌, ◌≤◌}
use native.Mathlib.Omega.{arith}
use borrow.Author.Tests.{ne_eqb, eqb-true}
use lib.Dec.{eqb}
use lib.ListN.{length}
use Rattle.policies.specs.Policy.{Policy, Policies, end, ◌▹◌, to_list, from_list}
use Rattle.contexts.specs.Leaves.{After, Older, Sha256, Hash256, Ripemd160, Hash160}
use Rattle.policies.specs.Policy.{Unsatisfiable, Trivial, Key, Lock, Hash, And, Or, Thresh}
use Rattle.policies.specs.Forms.{made, nth, kind_of, number_of, k_of, left_weight_of, right_weight_of, children_of}
use Rattle.policies.specs.Heads.{head_of, leaf_head, pair_head}
use Rattle.policies.specs.Array.{arity}
use Rattle.policies.specs.declared.Head.{Head}
use Rattle.policies.proofs.Ranges.{each}

pub to-from : (xs : List Policy) → to_list (from_list xs) ≡ xs
unfolding to_list from_list
to-from [] = refl
to-from (x ∷ xs) = ap (λ (l : List Policy). x ∷ l) (to-from xs)

pub from-to : (xs : Policies) → from_list (to_list xs) ≡ xs
unfolding to_list from_list
from-to end = refl
from-to (x ▹ xs) = ap (λ (l : Policies). x ▹ l) (from-to xs)

-- ---- a policy is made of its parts

pub made_again : (p : Policy) → made (kind_of p) (number_of p) (k_of p) (left_weight_of p) (right_weight_of p) (children_of p) ≡ p
unfolding made kind_of number_of k_of left_weight_of right_weight_of children_of
made_again Unsatisfiable = refl
made_again Trivial = refl
made_again (Key n) = refl
made_again (Lock After n) = refl
made_again (Lock Older n) = refl
made_again (Hash Sha256 n) = refl
made_again (Hash Hash256 n) = refl
made_again (Hash Ripemd160 n) = refl
made_again (Hash Hash160 n) = refl
made_again (And l r) = refl
made_again (Or l r lw rw) = refl
made_again (Thresh k xs) = ap (Thresh k) (from-to xs)

-- what a policy is, from its kind

module _ (p : Policy) where
  abbrev pub Is : (kind : ℕ) → Type 0
  Is kind = kind_of p ≡ kind → p ≡ made kind (number_of p) (k_of p) (left_weight_of p) (right_weight_of p) (children_of p)

  from-kind : (kind : ℕ) → Is kind
  from-kind kind e = sym (made_again p) ∙ ap (λ (x : ℕ). made x (number_of p) (k_of p) (left_weight_of p) (right_weight_of p) (children_of p)) e

  pub is-unsatisfiable : kind_of p ≡ 1 → p ≡ Unsatisfiable
  unfolding made
  is-unsatisfiable = from-kind 1

  pub is-trivial : kind_of p ≡ 2 → p ≡ Trivial
  unfolding made
  is-trivial = from-kind 2

  pub is_key : kind_of p ≡ 3 → p ≡ Key (number_of p)
  unfolding made
  is_key = from-kind 3

  pub is-after : kind_of p ≡ 4 → p ≡ Lock After (number_of p)
  unfolding made
  is-after = from-kind 4

  pub is-older : kind_of p ≡ 5 → p ≡ Lock Older (number_of p)
  unfolding made
  is-older = from-kind 5

  pub is-sha256 : kind_of p ≡ 6 → p ≡ Hash Sha256 (number_of p)
  unfolding made
  is-sha256 = from-kind 6

  pub is-hash256 : kind_of p ≡ 7 → p ≡ Hash Hash256 (number_of p)
  unfolding made
  is-hash256 = from-kind 7

  pub is-ripemd160 : kind_of p ≡ 8 → p ≡ Hash Ripemd160 (number_of p)
  unfolding made
  is-ripemd160 = from-kind 8

  pub is-hash160 : kind_of p ≡ 9 → p ≡ Hash Hash160 (number_of p)
  unfolding made
  is-hash160 = from-kind 9

  pub is-and : kind_of p ≡ 10 → p ≡ And (nth (children_of p) 0) (nth (children_of p) 1)
  unfolding made
  is-and = from-kind 10

  pub is-or : kind_of p ≡ 11 → p ≡ Or (nth (children_of p) 0) (nth (children_of p) 1) (left_weight_of p) (right_weight_of p)
  unfolding made
  is-or = from-kind 11

  pub is-thresh : kind_of p ≡ 12 → p ≡ Thresh (k_of p) (from_list (children_of p))
  unfolding made
  is-thresh = from-kind 12

-- an And and an Or have two children
pub two-and : (p : Policy) → kind_of p ≡ 10 → length (children_of p) ≡ 2
unfolding children_of
two-and p e = ap (λ (q : Policy). length (children_of q)) (is-and p e)

pub two-or : (p : Policy) → kind_of p ≡ 11 → length (children_of p) ≡ 2
unfolding children_of
two-or p e = ap (λ (q : Policy). length (children_of q)) (is-or p e)

rebuilt : Head → List Policy → Policy
rebuilt h cs = made h.kind h.number h.k h.left_weight h.right_weight cs

-- two policies are equal where their heads and their children are
pub same_parts : (p q : Policy) → head_of p ≡ head_of q → children_of p ≡ children_of q → p ≡ q
unfolding rebuilt made
same_parts p q h e = sym (made_again p) ∙ ap (λ (x : Head). rebuilt x (children_of p)) h ∙ ap (λ (cs : List Policy). rebuilt (head_of q) cs) e
    ∙ made_again q

-- ---- the children of what is made

all_two : (cs : List Policy) → length cs ≡ 2 → nth cs 0 ∷ nth cs 1 ∷ [] ≡ cs
all_two [] e = absurd (omega arith)
all_two (x ∷ []) e = absurd (omega arith)
all_two (x ∷ y ∷ []) e = refl
all_two (x ∷ y ∷ z ∷ cs) e = absurd (omega arith)

nothing-else : (cs : List Policy) → length cs ≡ 0 → [] ≡ cs
nothing-else [] e = refl
nothing-else (x ∷ cs) e = absurd (omega arith)

leaf-or : (b : Bool) (p q : Policy) {cs : List Policy} → ([] ≡ cs → children_of p ≡ cs) → ([] ≡ cs → children_of q ≡ cs) → [] ≡ cs
    → children_of (cond b p q) ≡ cs
leaf-or true p q f g e = f e
leaf-or false p q f g e = g e

-- what is made with as many children as its kind has, has these children
pub children-made : (kind number k n left right : ℕ) (cs : List Policy) → length cs ≡ arity kind n
    → children_of (made kind number k left right cs) ≡ cs
unfolding made children_of
children-made kind number k n left right cs l = by_kind (eqb kind 10) (eqb kind 11) (eqb kind 12) refl refl refl
  where
    by_kind : (and or thresh : Bool) → eqb kind 10 ≡ and → eqb kind 11 ≡ or → eqb kind 12 ≡ thresh
        → children_of (made kind number k left right cs) ≡ cs
    by_kind true or thresh a o t =
        let e : kind ≡ 10 = eqb-true kind 10 a in
        rw e (all_two cs (l ∙ rw e))
    by_kind false true thresh a o t =
        let e : kind ≡ 11 = eqb-true kind 11 o in
        rw e (all_two cs (l ∙ rw e))
    by_kind false false true a o t =
        let e : kind ≡ 12 = eqb-true kind 12 t in
        rw e (to-from cs)
    by_kind false false false a o t =
        let none : [] ≡ cs = nothing-else cs (l ∙ rw (a, o, t)) in
        rw (a, o, t) (
        leaf-or (eqb kind 2) Trivial _ (λ e. e) (
        leaf-or (eqb kind 3) (Key number) _ (λ e. e) (
        leaf-or (eqb kind 4) (Lock After number) _ (λ e. e) (
        leaf-or (eqb kind 5) (Lock Older number) _ (λ e. e) (
        leaf-or (eqb kind 6) (Hash Sha256 number) _ (λ e. e) (
        leaf-or (eqb kind 7) (Hash Hash256 number) _ (λ e. e) (
        leaf-or (eqb kind 8) (Hash Ripemd160 number) _ (λ e. e) (
        leaf-or (eqb kind 9) (Hash Hash160 number) Unsatisfiable (λ e. e) (λ e. e)))))))) none)

-- ---- only the kind 12 makes a Thresh

else-kind : (b : Bool) (p q : Policy) → (kind_of p ≡ 12 → ⊥) → (kind_of q ≡ 12 → ⊥) → kind_of (cond b p q) ≡ 12 → ⊥
else-kind true p q f g e = f e
else-kind false p q f g e = g e

pub thresh-made : (kind number k left right : ℕ) (cs : List Policy) → kind_of (made kind number k left right cs) ≡ 12 → kind ≡ 12
unfolding made kind_of
thresh-made kind number k left right cs e = by-test (eqb kind 12) refl
  where
    not-12 : {n : ℕ} → n < 12 → n ≡ 12 → ⊥
    not-12 h e = omega arith

    by-test : (t : Bool) → eqb kind 12 ≡ t → kind ≡ 12
    by-test true q = eqb-true kind 12 q
    by-test false q =
        absurd
        (else-kind (eqb kind 2) Trivial _ (not-12 (omega arith))
        (else-kind (eqb kind 3) (Key number) _ (not-12 (omega arith))
        (else-kind (eqb kind 4) (Lock After number) _ (not-12 (omega arith))
        (else-kind (eqb kind 5) (Lock Older number) _ (not-12 (omega arith))
        (else-kind (eqb kind 6) (Hash Sha256 number) _ (not-12 (omega arith))
        (else-kind (eqb kind 7) (Hash Hash256 number) _ (not-12 (omega arith))
        (else-kind (eqb kind 8) (Hash Ripemd160 number) _ (not-12 (omega arith))
        (else-kind (eqb kind 9) (Hash Hash160 number) _ (not-12 (omega arith))
        (else-kind (eqb kind 10) (And (nth cs 0) (nth cs 1)) _ (not-12 (omega arith))
        (else-kind (eqb kind 11) (Or (nth cs 0) (nth cs 1) left right) Unsatisfiable (not-12 (omega arith)) (not-12 (omega arith)))))))))))
        (rw q at e))

-- ---- the head of what is made, by kinds

module _ (number k n left_weight right_weight : ℕ) where
  -- the head h is the one of every policy made with so many children
  abbrev pub Heads : ℕ → Head → Type 0
  Heads kind h = (cs : List Policy) → length cs ≡ arity kind n → h ≡ head_of (made kind number k left_weight right_weight cs)

  pub trivial-head : (kind : ℕ) → kind ≡ 2 → Heads kind (leaf_head 2 0)
  unfolding made kind_of number_of k_of left_weight_of right_weight_of children_of
  trivial-head kind e = subst (λ (x : ℕ). Heads x (leaf_head 2 0)) (sym e) (λ cs l. refl)

  pub number-head : (kind : ℕ) → 3 ≤ kind → kind ≤ 9 → Heads kind (leaf_head kind number)
  unfolding made kind_of number_of k_of left_weight_of right_weight_of children_of
  number-head kind l u =
      each
      (λ (x : ℕ). Heads x (leaf_head x number))
      3
      7
      (λ cs l. refl, (λ cs l. refl, (λ cs l. refl, (λ cs l. refl, (λ cs l. refl, (λ cs l. refl, (λ cs l. refl, tt)))))))
      kind
      l
      (omega arith)

  pub and-head : (kind : ℕ) → kind ≡ 10 → Heads kind (pair_head 10 0 0)
  unfolding made kind_of number_of k_of left_weight_of right_weight_of children_of
  and-head kind e = subst (λ (x : ℕ). Heads x (pair_head 10 0 0)) (sym e) (λ cs l. refl)

  pub or-head : (kind : ℕ) → kind ≡ 11 → Heads kind (pair_head 11 left_weight right_weight)
  unfolding made kind_of number_of k_of left_weight_of right_weight_of children_of
  or-head kind e = subst (λ (x : ℕ). Heads x (pair_head 11 left_weight right_weight)) (sym e) (λ cs l. refl)

  thresh_head : ℕ → Head
  thresh_head c = record { kind = 12; number = 0; k = k; count = c; left_weight = 0; right_weight = 0 }

  pub thresh-head : (kind : ℕ) → kind ≡ 12
      → Heads kind (record { kind = 12; number = 0; k = k; count = n; left_weight = 0; right_weight = 0 })
  unfolding thresh_head made kind_of number_of k_of left_weight_of right_weight_of children_of
  thresh-head kind e = subst (λ (x : ℕ). Heads x (thresh_head n)) (sym e) λ cs l. ap thresh_head (sym (ap length (to-from cs) ∙ l))

  -- any other number makes Unsatisfiable
  pub other-head : (kind : ℕ) → (2 ≤ kind → kind ≤ 12 → ⊥) → Heads kind (leaf_head 1 0)
  unfolding made kind_of number_of k_of left_weight_of right_weight_of children_of
  other-head kind out cs l =
      let ne : (x : ℕ) → 2 ≤ x → x ≤ 12 → eqb kind x ≡ false =
      λ x a b. ne_eqb kind x (λ (e : kind ≡ x). out (omega arith) (omega arith)) in
      rw (
        ne 2 (omega arith) (omega arith),
        ne 3 (omega arith) (omega arith),
        ne 4 (omega arith) (omega arith),
        ne 5 (omega arith) (omega arith),
        ne 6 (omega arith) (omega arith),
        ne 7 (omega arith) (omega arith),
        ne 8 (omega arith) (omega arith),
        ne 9 (omega arith) (omega arith),
        ne 10 (omega arith) (omega arith),
        ne 11 (omega arith) (omega arith),
        ne 12 (omega arith) (omega arith),
      )
