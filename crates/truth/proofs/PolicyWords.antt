-- The word of a policy's record, child by child. Assumes nothing.
use Prim.Native.Nat.{ℕ, ◌+◌, ◌-◌, ◌≤◌, ◌<◌}
use mathlib.Core.Bool.{Bool, true, false, ◌&&◌}
use mathlib.Core.List.{List, [], ◌∷◌, map}
use mathlib.Core.Logic.{◌⊎◌, inl, inr}
use mathlib.Core.Path.{◌≡◌, refl, sym, ap, ◌∙◌}
use native.Mathlib.Omega.{arith}
use native.Mathlib.Numerals.{add-one}
use borrow.Author.Tests.{leb-true, leb-false}
use lib.Dec.{leb}
use lib.ListN.{length, get_or, take}
use lib.Seq.{take_all}
use Rattle.records.specs.Numbers.{between}
use Rattle.contexts.specs.Lists.{one}
use Rattle.policies.specs.Policy.{Policy, Unsatisfiable, Thresh, to_list, from_list}
use Rattle.policies.specs.Forms.{nth, kind_of, number_of, k_of, children_of}
use Rattle.policies.specs.Array.{policy_at, Good, stored, child_number}
use Rattle.policies.specs.declared.Head.{Head}
use Rattle.policies.specs.Heads.{head_of}
use Rattle.policies.proofs.Forms.{is-thresh}
use Rattle.policies.proofs.Views.{stored-below, stored_is, stored-count, child-is, thresh-some}
use Rattle.meaning.specs.Meaning.{count_true, policy_means}
use Rattle.variables.specs.declared.Var.{Var}
use Rattle.variables.specs.Gathering.{code}
use Rattle.truth.specs.Words.{bit_at, word_for, assigned, Planes, OneMore}
use Rattle.truth.specs.Gates.{policy_gate}
use Rattle.truth.proofs.PlaneLaws.{planes-more, planes-same}
use Rattle.truth.proofs.Counting.{count-snoc}
use Rattle.truth.proofs.GateLaws.{policy-gates, policy-leaf, policy-gate-low}

-- ---- leaves by their kinds

both_true : (a b : Bool) → a && b ≡ true → (a ≡ true) × (b ≡ true)
both_true true b h = (refl, h)
both_true false b h = (h, cc)

pub leaf-kind : (kind : ℕ) {b : Bool} → b ≡ between 3 9 kind → b ≡ true → (3 ≤ kind) × (kind < 10)
leaf-kind kind e t =
    let both = both_true (leb 3 kind) (leb kind 9) (sym e ∙ t) in
    (leb-true 3 kind both.0, omega (arith, leb-true kind 9 both.1))

pub other-kind : (kind : ℕ) {b : Bool} → b ≡ between 3 9 kind → b ≡ false → (kind < 3) ⊎ (10 ≤ kind)
other-kind kind {b} e t = by_tests (leb 3 kind) (leb kind 9) refl refl
  where
    by_tests : (x y : Bool) → leb 3 kind ≡ x → leb kind 9 ≡ y → (kind < 3) ⊎ (10 ≤ kind)
    by_tests false y p q = inl (omega (arith, leb-false 3 kind p))
    by_tests true false p q = inr (omega (arith, leb-false kind 9 q))
    by_tests true true p q =
        let yes : between 3 9 kind ≡ true = rw (p, q) in
        absurd (let z : ◌≡◌ {A = ℕ} 0 1 = cc (e, t, yes) in omega arith)

to-from : (xs : List Policy) → to_list (from_list xs) ≡ xs
unfolding to_list from_list
to-from [] = refl
to-from (x ∷ xs) = ap (λ (l : List Policy). x ∷ l) (to-from xs)

-- the children counted so far
pub record ChildrenOn (p : Policy) (row : List Var) (words planes : List ℕ) (j : ℕ) : Type 0 where
  pub upto : j ≤ length (children_of p)
  pub so_far : Planes planes (λ b. count_true (map (policy_means (assigned row words b)) (take j (children_of p))))

module _ (m : List ℕ) (i : ℕ) (g : Good m) (h : i < 64) {head : Head} (told : head ≡ head_of (policy_at m i)) (row : List Var) (words : List ℕ) where
  abbrev p : Policy
  p = policy_at m i

  kind-is : head.kind ≡ kind_of p
  kind-is = ap (λ (x : Head). x.kind) told

  number_is : head.number ≡ number_of p
  number_is = ap (λ (x : Head). x.number) told

  k-is : head.k ≡ k_of p
  k-is = ap (λ (x : Head). x.k) told

  count-is : head.count ≡ length (children_of p)
  count-is = ap (λ (x : Head). x.count) told

  pub leaf-word : 3 ≤ head.kind → head.kind < 10 → {r : ℕ} → r ≡ word_for row words (code (head.kind - 3) head.number)
      → (j : ℕ) → j < 64 → bit_at r j ≡ policy_means (assigned row words j) p
  leaf-word l n {r} e j s =
      ap (λ (w : ℕ). bit_at w j) (e ∙ ap (λ (k : ℕ). word_for row words (code (k - 3) head.number)) kind-is
      ∙ ap (λ (k : ℕ). word_for row words (code (kind_of p - 3) k)) number_is)
      ∙ policy-leaf row words j p (omega (arith, kind-is)) (omega (arith, kind-is))

  pub falls : (j : ℕ) {c : ℕ} → c ≡ child_number m i j → j < head.count → (c < i) × (c < 64)
  falls j e l =
      let b : child_number m i j < i = stored-below m g i j h (omega (arith, count-is)) in
      (omega arith, omega arith)

  pub children-begin : {planes : List ℕ} → Planes planes (λ j. 0) → ChildrenOn p row words planes 0
  unfolding count_true
  children-begin none = record { upto = omega arith; so_far = none }

  pub children-more : {planes : List ℕ} {j : ℕ} → ChildrenOn p row words planes j → j < head.count → {c : ℕ} → c ≡ child_number m i j → {x : ℕ}
      → ((b : ℕ) → b < 64 → bit_at x b ≡ policy_means (assigned row words b) (policy_at m c)) → {next : List ℕ} → OneMore planes x next → ChildrenOn p row words next (j + 1)
  children-more {planes} {j} on l {c} e {x} means {next} o =
      record { upto = omega (arith, count-is); so_far = planes-same (planes-more on.so_far o) same }
    where
      inside : j < length (children_of p)
      inside = omega (arith, count-is)

      its : policy_at m c ≡ nth (children_of p) j
      its = ap (policy_at m) e ∙ (child-is m g i j (stored h) inside).is

      same : (b : ℕ) → b < 64 → one (bit_at x b) + count_true (map (policy_means (assigned row words b)) (take j (children_of p)))
          ≡ count_true (map (policy_means (assigned row words b)) (take (j + 1) (children_of p)))
      same b s =
          ap (λ (t : Bool). one t + count_true (map (policy_means (assigned row words b)) (take j (children_of p))))
          (means b s ∙ ap (policy_means (assigned row words b)) its)
          ∙ sym (ap (λ (n : ℕ). count_true (map (policy_means (assigned row words b)) (take n (children_of p)))) (add-one j)
          ∙ count-snoc (policy_means (assigned row words b)) Unsatisfiable (children_of p) j inside)

  -- no more than sixteen are asked
  few-asked : kind_of p ≡ 12 → k_of p ≤ 16
  few-asked e =
      let is : p ≡ Thresh (k_of p) (from_list (children_of p)) = is-thresh p e in
      let Some-of = thresh-some m g i (k_of p) (from_list (children_of p)) h is in
      let size : length (to_list (from_list (children_of p))) ≡ length (children_of p) = ap length (to-from (children_of p)) in
      let n = stored-count m i g h in
      let here : length (children_of p) ≡ length (children_of (policy_at m i)) = refl in
      let at : length (children_of (policy_at m i)) ≡ _ = ap (λ (q : Policy). length (children_of q)) (stored_is m i h) ∙ n in
      omega (arith, Some-of.1, size, at, g.rows.few i h)

  pub gate-inside : {q : ℕ} → q ≡ policy_gate head.kind head.k → q < 17
  gate-inside e = rw e (policy-gate-low head.kind head.k (λ t. omega (arith, k-is, few-asked (sym kind-is ∙ t))))

  pub children-word : {planes : List ℕ} {j : ℕ} → ChildrenOn p row words planes j → head.count ≤ j → (head.kind < 3) ⊎ (10 ≤ head.kind) → {q : ℕ}
      → q ≡ policy_gate head.kind head.k → (b : ℕ) → b < 64 → bit_at (get_or planes q 0) b ≡ policy_means (assigned row words b) p
  children-word {planes} {j} on l kinds {q} e b s =
      let whole : take j (children_of p) ≡ children_of p = take_all j (children_of p) (omega (arith, count-is)) in
      on.so_far.each q b (gate-inside e) s
      ∙ ap (λ (n : ℕ). leb n (count_true (map (policy_means (assigned row words b)) (take j (children_of p)))))
      (e ∙ ap (λ (n : ℕ). policy_gate n head.k) kind-is ∙ ap (policy_gate (kind_of p)) k-is)
      ∙ ap (λ (xs : List Policy). leb (policy_gate (kind_of p) (k_of p)) (count_true (map (policy_means (assigned row words b)) xs))) whole
      ∙ sym (policy-gates (assigned row words b) p (other kinds))
    where
      other : (head.kind < 3) ⊎ (10 ≤ head.kind) → (kind_of p < 3) ⊎ (10 ≤ kind_of p)
      other (inl a) = inl (omega (arith, kind-is))
      other (inr a) = inr (omega (arith, kind-is))
