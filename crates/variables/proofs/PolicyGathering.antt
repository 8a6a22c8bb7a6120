-- The variables of a policy, child by child. Assumes nothing.
use Prim.Native.Nat.{ℕ, ◌+◌, ◌-◌, ◌≤◌, ◌<◌}
use mathlib.Core.List.{List, [], ◌∷◌, ◌++◌, append_assoc}
use mathlib.Core.Path.{◌≡◌, refl, sym, ap, ◌∙◌}
use native.Mathlib.Omega.{arith}
use native.Mathlib.Numerals.{add-one}
use lib.ListN.{length, take}
use lib.Seq.{take-suc, take_all}
use Rattle.contexts.specs.Leaves.{After, Older, Sha256, Hash256, Ripemd160, Hash160}
use Rattle.policies.specs.Policy.{Policy, Policies, Unsatisfiable, Trivial, Key, Lock, Hash, And, Or, Thresh, end, ◌▹◌, to_list}
use Rattle.policies.specs.Forms.{nth, kind_of, number_of, children_of}
use Rattle.policies.specs.Array.{policy_at, Good, stored, child_number}
use Rattle.policies.specs.declared.Head.{Head}
use Rattle.policies.specs.Heads.{head_of}
use Rattle.policies.proofs.Views.{stored-below, child-is}
use Rattle.meaning.specs.Meaning.{Variable, key, lock, hash}
use Rattle.variables.specs.declared.Vars.{Vars}
use Rattle.variables.specs.Variables.{policy_variables, policies_variables}
use Rattle.variables.specs.Gathering.{code, code_of, Roomy, add_code, Gathered}
use Rattle.variables.proofs.Rows.{gathered-add}

pub nil : (l : List Variable) → l ++ [] ≡ l
nil [] = refl
nil (v ∷ l) = ap (λ (k : List Variable). v ∷ k) (nil l)

-- ---- a leaf

pub record Leaf (p : Policy) : Type 0 where
  pub variable : Variable
  pub only : policy_variables p ≡ variable ∷ []
  pub its-code : code_of variable ≡ code (kind_of p - 3) (number_of p)

pub leaf : (p : Policy) → 3 ≤ kind_of p → kind_of p < 10 → Leaf p
unfolding kind_of number_of policy_variables
leaf Unsatisfiable l h = absurd (omega arith)
leaf Trivial l h = absurd (omega arith)
leaf (Key n) l h = record { variable = key n; only = refl; its-code = refl }
leaf (Lock After n) l h = record { variable = lock After n; only = refl; its-code = refl }
leaf (Lock Older n) l h = record { variable = lock Older n; only = refl; its-code = refl }
leaf (Hash Sha256 n) l h = record { variable = hash Sha256 n; only = refl; its-code = refl }
leaf (Hash Hash256 n) l h = record { variable = hash Hash256 n; only = refl; its-code = refl }
leaf (Hash Ripemd160 n) l h = record { variable = hash Ripemd160 n; only = refl; its-code = refl }
leaf (Hash Hash160 n) l h = record { variable = hash Hash160 n; only = refl; its-code = refl }
leaf (And x y) l h = absurd (omega arith)
leaf (Or x y lw rw) l h = absurd (omega arith)
leaf (Thresh k xs) l h = absurd (omega arith)

constant : (p : Policy) → kind_of p < 3 → policy_variables p ≡ []
unfolding kind_of policy_variables
constant Unsatisfiable h = refl
constant Trivial h = refl
constant (Key n) h = absurd (omega arith)
constant (Lock After n) h = absurd (omega arith)
constant (Lock Older n) h = absurd (omega arith)
constant (Hash Sha256 n) h = absurd (omega arith)
constant (Hash Hash256 n) h = absurd (omega arith)
constant (Hash Ripemd160 n) h = absurd (omega arith)
constant (Hash Hash160 n) h = absurd (omega arith)
constant (And x y) h = absurd (omega arith)
constant (Or x y lw rw) h = absurd (omega arith)
constant (Thresh k xs) h = absurd (omega arith)

-- ---- a policy with children

unfoldable pub of_all : List Policy → List Variable
of_all [] = []
of_all (p ∷ ps) = policy_variables p ++ of_all ps

of-list : (xs : Policies) → policies_variables xs ≡ of_all (to_list xs)
unfolding policies_variables of_all to_list
of-list end = refl
of-list (x ▹ xs) = ap (λ (l : List Variable). policy_variables x ++ l) (of-list xs)

of-children : (p : Policy) → 10 ≤ kind_of p → policy_variables p ≡ of_all (children_of p)
unfolding kind_of policy_variables of_all children_of
of-children Unsatisfiable h = absurd (omega arith)
of-children Trivial h = absurd (omega arith)
of-children (Key n) h = absurd (omega arith)
of-children (Lock After n) h = absurd (omega arith)
of-children (Lock Older n) h = absurd (omega arith)
of-children (Hash Sha256 n) h = absurd (omega arith)
of-children (Hash Hash256 n) h = absurd (omega arith)
of-children (Hash Ripemd160 n) h = absurd (omega arith)
of-children (Hash Hash160 n) h = absurd (omega arith)
of-children (And x y) h = ap (λ (l : List Variable). policy_variables x ++ l) (sym (nil (policy_variables y)))
of-children (Or x y lw rw) h = ap (λ (l : List Variable). policy_variables x ++ l) (sym (nil (policy_variables y)))
of-children (Thresh k xs) h = of-list xs

of-snoc : (ps : List Policy) (p : Policy) → of_all (ps ++ (p ∷ [])) ≡ of_all ps ++ policy_variables p
unfolding of_all
of-snoc [] p = nil (policy_variables p)
of-snoc (q ∷ ps) p =
    ap (λ (l : List Variable). policy_variables q ++ l) (of-snoc ps p) ∙ sym (append_assoc (policy_variables q) (of_all ps) (policy_variables p))

-- ---- the code

pub record PolicyOn (t : Vars) (children : List Policy) (j : ℕ) (all : Vars) : Type 0 where
  pub upto : j ≤ length children
  pub room : Roomy all
  pub so_far : (l : List Variable) → Gathered t l → Gathered all (l ++ of_all (take j children))

pub policy-begin : (t : Vars) (children : List Policy) → Roomy t → PolicyOn t children 0 t
unfolding of_all
policy-begin t children room = record { upto = omega arith; room = room; so_far = λ l g. rw (nil l) g }

module _ (m : List ℕ) (i : ℕ) (g : Good m) (h : i < 64) {head : Head} (told : head ≡ head_of (policy_at m i)) where
  abbrev p : Policy
  p = policy_at m i

  kind-is : head.kind ≡ kind_of p
  kind-is = ap (λ (x : Head). x.kind) told

  number_is : head.number ≡ number_of p
  number_is = ap (λ (x : Head). x.number) told

  count-is : head.count ≡ length (children_of p)
  count-is = ap (λ (x : Head). x.count) told

  pub no-variables : (t : Vars) → head.kind < 3 → (l : List Variable) → Gathered t l → Gathered t (l ++ policy_variables p)
  no-variables t s l x = rw (constant p (omega (arith, kind-is)), nil l) x

  pub one-variable : (t : Vars) → Roomy t → 3 ≤ head.kind → head.kind < 10 → {r : Vars}
      → r ≡ add_code t (code (head.kind - 3) head.number) → (l : List Variable) → Gathered t l → Gathered r (l ++ policy_variables p)
  one-variable t room a b {r} e l x =
      let its = leaf p (omega (arith, kind-is)) (omega (arith, kind-is)) in
      let same : code (head.kind - 3) head.number ≡ code_of its.variable =
      ap (λ (n : ℕ). code (n - 3) head.number) kind-is ∙ ap (code (kind_of p - 3)) number_is ∙ sym its.its-code in
      rw (its.only, e, same) (gathered-add t its.variable l room x)

  pub falls : (j : ℕ) {c : ℕ} → c ≡ child_number m i j → j < head.count → (c < i) × (c < 64)
  falls j e l =
      let b : child_number m i j < i = stored-below m g i j h (omega (arith, count-is)) in
      (omega arith, omega arith)

  pub policy-more : {t all : Vars} {j : ℕ} → PolicyOn t (children_of p) j all → j < head.count → {c : ℕ} → c ≡ child_number m i j → {next : Vars}
      → ((l : List Variable) → Gathered all l → Gathered next (l ++ policy_variables (policy_at m c))) → Roomy next
      → PolicyOn t (children_of p) (j + 1) next
  policy-more {t} {all} {j} on l {c} e {next} adds room =
      record { upto = omega (arith, count-is); room = room; so_far = λ k x. one k (adds (k ++ of_all (take j (children_of p))) (on.so_far k x)) }
    where
      inside : j < length (children_of p)
      inside = omega (arith, count-is)

      its : policy_at m c ≡ nth (children_of p) j
      its = ap (policy_at m) e ∙ (child-is m g i j (stored h) inside).is

      grown : of_all (take (j + 1) (children_of p)) ≡ of_all (take j (children_of p)) ++ policy_variables (policy_at m c)
      grown =
          ap (λ (n : ℕ). of_all (take n (children_of p))) (add-one j) ∙ ap of_all (take-suc (children_of p) j Unsatisfiable inside)
          ∙ of-snoc (take j (children_of p)) (nth (children_of p) j) ∙ ap (λ (x : Policy). of_all (take j (children_of p)) ++ policy_variables x) (sym its)

      one : (k : List Variable) → Gathered next ((k ++ of_all (take j (children_of p))) ++ policy_variables (policy_at m c)) → Gathered next (k ++ of_all (take (j + 1) (children_of p)))
      one k x =
          let joined : k ++ of_all (take (j + 1) (children_of p)) ≡ (k ++ of_all (take j (children_of p))) ++ policy_variables (policy_at m c) =
          ap (λ (l : List Variable). k ++ l) grown ∙ sym (append_assoc k (of_all (take j (children_of p))) (policy_variables (policy_at m c))) in
          rw joined x

  pub policy-done : {t all : Vars} {j : ℕ} → PolicyOn t (children_of p) j all → 10 ≤ head.kind → head.count ≤ j
      → (l : List Variable) → Gathered t l → Gathered all (l ++ policy_variables p)
  policy-done {t} {all} {j} on k n l x =
      let whole : take j (children_of p) ≡ children_of p = take_all j (children_of p) (omega (arith, count-is)) in
      let same : of_all (take j (children_of p)) ≡ policy_variables p = ap of_all whole ∙ sym (of-children p (omega (arith, kind-is))) in
      rw (← same) (on.so_far l x)
