-- No policy that is read weighs more than `max_weight`: `weight-bounded`. So what `weight` asks for holds of the root that `read_policy`
-- answers, which is what callers cite: `weighable`. Assumes nothing.
use Rattle.refusals.specs.declared.Refusal.{Refusal}
use mathlib.Core.Path.{◌≡◌, refl, sym, ◌∙◌, ap}
use mathlib.Core.Bool.{Bool, true, false, cond}
use mathlib.Core.List.{List, [], ◌∷◌, ◌++◌}
use Rattle.std.specs.Prelude.{Option, None, Some, Result, Ok}
use Prim.Native.Nat.{ℕ, zero, suc, ◌+◌, ◌*◌, ◌<◌, ◌≤◌}
use native.Mathlib.Omega.{arith}
use borrow.Author.Tests.{eqb-true, eqb-false}
use lib.Dec.{eqb, leb}
use lib.ListN.{length, set, take, drop, length-map}
use lib.Seq.{get_or-set_other}
use Rattle.records.specs.Payloads as payload
use Rattle.records.specs.Payloads.{Payload}
use Rattle.records.specs.RecordForm.{record_length, kind_of, policy_payload}
use Rattle.policies.specs.Policy.{Policy, depth, weight}
use Rattle.policies.specs.Forms.{children_of}
use Rattle.policies.specs.Reading.{Answer, refused, done, ◌>>=◌, or_refuse, refuse_if, Slots, slot, if_there, without, those}
use Rattle.policies.specs.Reading.{weighs_nothing, written, Next, read_whole, read_record, root_of, finish, read_from, read_policy}
use Rattle.policies.specs.Reading.{max_records, max_weight}
use Rattle.policies.specs.Array.{policy_at, Good}
use Rattle.policies.specs.Answers.{PolicyRead, reads, bad-array, PolicyGood}
use Rattle.policies.proofs.Forms.{children-made}
use Rattle.policies.proofs.Fits.{fit}
use Rattle.policies.proofs.Sizes.{weights_in, weight-between}

some_same : {A : Type 0} {a b : A} → Some a ≡ Some b → a ≡ b
some_same e = cc

-- ---- what the slots hold: 2 and its weight for each policy that is there

abbrev load : Option Policy → ℕ
load (Some p) = 2 + weight p
load None = 0

unfoldable held : Slots → ℕ
held [] = 0
held (s ∷ slots) = load s + held slots

-- a policy is added
held-added : (slots : Slots) (p : Policy) → held (slots ++ (Some p ∷ [])) ≡ held slots + (2 + weight p)
unfolding held
held-added [] p = omega arith
held-added (s ∷ slots) p =
    let h : held (slots ++ (Some p ∷ [])) ≡ held slots + (2 + weight p) = held-added slots p in
    omega arith

-- a policy is taken out
held-taken : (slots : Slots) (j : ℕ) {p : Policy} → slot slots j ≡ Some p → held slots ≡ (2 + weight p) + held (set slots j None)
unfolding held
held-taken [] j e = cc
held-taken (s ∷ slots) zero {p} e = rw e (omega arith)
held-taken (s ∷ slots) (suc j) {p} e =
    let h : held slots ≡ (2 + weight p) + held (set slots j None) = held-taken slots j e in
    omega arith

-- the root is one of them
held-root : (slots : Slots) {p : Policy} → root_of slots ≡ Some p → 2 + weight p ≤ held slots
unfolding root_of held
held-root [] e = absurd (let z : ◌≡◌ {A = ℕ} 0 1 = cc in omega arith)
held-root (s ∷ []) e = rw e (omega arith)
held-root (None ∷ s ∷ slots) e = let h = held-root (s ∷ slots) e in omega arith
held-root (Some q ∷ s ∷ slots) e = absurd (let z : ◌≡◌ {A = ℕ} 0 1 = cc in omega arith)

-- ---- the children of a record are taken out

-- what some slots have is as it was in the slots before
abbrev AsIn : (before slots : Slots) → Type 0
AsIn before slots = (x : ℕ) (p : Policy) → slot slots x ≡ Some p → slot before x ≡ Some p

as-in-less : (before slots : Slots) (j : ℕ) → AsIn before slots → AsIn before (set slots j None)
as-in-less before slots j still x p e = by-test (eqb x j) refl
  where
    gone : (slots : Slots) (j : ℕ) → slot (set slots j None) j ≡ None
    gone [] j = refl
    gone (s ∷ slots) zero = refl
    gone (s ∷ slots) (suc j) = gone slots j

    by-test : (t : Bool) → eqb x j ≡ t → slot before x ≡ Some p
    by-test true q =
        let same : x ≡ j = eqb-true x j q in
        let no : slot (set slots j None) j ≡ Some p = rw same at e in
        absurd (let z : ◌≡◌ {A = ℕ} 0 1 = let none_is : None ≡ Some p = sym (gone slots j) ∙ no in cc in omega arith)
    by-test false q = still x p (sym (get_or-set_other slots j x None None (eqb-false x j q)) ∙ e)

-- what the children weigh, and 2 for each, goes with them
held-without : (before : Slots) (js : List ℕ) (slots : Slots) {left : Slots} → AsIn before slots → without js slots ≡ Some left
    → held slots ≡ weights_in (those js before) + 2 * length js + held left
unfolding without weights_in
held-without before [] slots still e =
    let same = ap held (some_same e) in
    omega arith
held-without before (j ∷ js) slots {left} still e =
    by-slot (held-without before js (set slots j None) (as-in-less before slots j still)) (slot slots j) refl e
  where
    by-slot : (without js (set slots j None) ≡ Some left → held (set slots j None) ≡ weights_in (those js before) + 2 * length js + held left)
        → (o : Option Policy) → slot slots j ≡ o → if_there o (without js (set slots j None)) ≡ Some left
        → held slots ≡ weights_in (those (j ∷ js) before) + 2 * length (j ∷ js) + held left
    by-slot after (Some p) q e =
        let first : slot before j ≡ Some p = still j p q in
        let others : held (set slots j None) ≡ weights_in (those js before) + 2 * length js + held left = after e in
        let taken : held slots ≡ (2 + weight p) + held (set slots j None) = held-taken slots j q in
        rw first (omega arith)
    by-slot after None q e = absurd (let z : ◌≡◌ {A = ℕ} 0 1 = cc in omega arith)

-- ---- a record adds 3 at most

record-adds : (slots : Slots) (s : List ℕ) (p : Payload) {left : Slots} → policy_payload s ≡ Some p
    → without (payload.children_of p) slots ≡ Some left → held (left ++ (Some (written (kind_of s) p slots) ∷ [])) ≤ 3 + held slots
record-adds slots s p {left} e w =
    let cs : List Policy = those (payload.children_of p) slots in
    let many : length cs ≡ length (payload.children_of p) = length-map (payload.children_of p) _ in
    let children : children_of (written (kind_of s) p slots) ≡ cs =
    children-made (kind_of s) (payload.number_of p) (payload.k_of p) (payload.count_of p) (payload.left_weight_of p) (payload.right_weight_of p) cs
    (many ∙ sym (fit s p e).count) in
    let most : weight (written (kind_of s) p slots) ≤ 1 + weights_in cs + 2 * length cs =
    rw children at (weight-between (written (kind_of s) p slots)).1 in
    let taken : held slots ≡ weights_in cs + 2 * length (payload.children_of p) + held left =
    held-without slots (payload.children_of p) slots (λ x p e. e) w in
    let added = held-added left (written (kind_of s) p slots) in
    omega arith

whole-adds : (slots : Slots) (len : ℕ) (s : List ℕ) {next : Next} → read_whole slots len s ≡ done next → held next.slots ≤ 3 + held slots
unfolding read_whole
whole-adds slots len s {next} e = by-payload (policy_payload s) refl e
  where
    by_weights : (b : Bool) (after : Slots) → held after ≤ 3 + held slots → refuse_if 4 b (record { len = len; slots = after }) ≡ done next
        → held next.slots ≤ 3 + held slots
    by_weights true after h e = absurd (let z : ◌≡◌ {A = ℕ} 0 1 = cc in omega arith)
    by_weights false after h e =
        let same : next ≡ record { len = len; slots = after } = cc in
        rw same h

    by_left : (p : Payload) → policy_payload s ≡ Some p → (o : Option Slots) → without (payload.children_of p) slots ≡ o
        → (or_refuse 3 o
        >>= λ left. refuse_if 4 (weighs_nothing (kind_of s) p) (record { len = len; slots = left ++ (Some (written (kind_of s) p slots) ∷ []) }))
        ≡ done next
        → held next.slots ≤ 3 + held slots
    by_left p q (Some left) w e =
        by_weights (weighs_nothing (kind_of s) p) (left ++ (Some (written (kind_of s) p slots) ∷ [])) (record-adds slots s p q w) e
    by_left p q None w e = absurd (let z : ◌≡◌ {A = ℕ} 0 1 = cc in omega arith)

    by-payload : (o : Option Payload) → policy_payload s ≡ o
        → (or_refuse 3 o
        >>= λ p. or_refuse 3 (without (payload.children_of p) slots)
        >>= λ left. refuse_if 4 (weighs_nothing (kind_of s) p) (record { len = len; slots = left ++ (Some (written (kind_of s) p slots) ∷ []) }))
        ≡ done next
        → held next.slots ≤ 3 + held slots
    by-payload (Some p) q e = by_left p q (without (payload.children_of p) slots) refl e
    by-payload None q e = absurd (let z : ◌≡◌ {A = ℕ} 0 1 = cc in omega arith)

reading-adds : (slots : Slots) (s : List ℕ) {next : Next} → read_record slots s ≡ done next → held next.slots ≤ 3 + held slots
unfolding read_record
reading-adds slots s {next} e = by_length (record_length s) e
  where
    by_length : (o : Option ℕ) → (or_refuse 3 o >>= λ len. read_whole slots len (take len s)) ≡ done next → held next.slots ≤ 3 + held slots
    by_length (Some n) e = whole-adds slots n (take n s) e
    by_length None e = absurd (let z : ◌≡◌ {A = ℕ} 0 1 = cc in omega arith)

-- ---- the policy

finish-held : (slots : Slots) {p : Policy} → finish slots ≡ done p → 2 + weight p ≤ held slots
unfolding finish
finish-held slots {p} e = by-root (root_of slots) refl e
  where
    by-depth : (b : Bool) (root : Policy) → root_of slots ≡ Some root → cond b (done root) (refused 5) ≡ done p → 2 + weight p ≤ held slots
    by-depth true root q e =
        let same : root ≡ p = cc in
        held-root slots (q ∙ ap Some same)
    by-depth false root q e = absurd (let z : ◌≡◌ {A = ℕ} 0 1 = cc in omega arith)

    by-root : (o : Option Policy) → root_of slots ≡ o
        → (or_refuse 3 o >>= λ root. cond (leb (depth root) 16) (done root) (refused 5)) ≡ done p
        → 2 + weight p ≤ held slots
    by-root (Some root) q e = by-depth (leb (depth root) 16) root q e
    by-root None q e = absurd (let z : ◌≡◌ {A = ℕ} 0 1 = cc in omega arith)

from-held : (left : ℕ) (slots : Slots) (s : List ℕ) {p : Policy} → read_from left slots s ≡ done p → 2 + weight p ≤ held slots + 3 * left
unfolding read_from
from-held zero slots [] e = let h = finish-held slots e in omega arith
from-held zero slots (b ∷ s) e = absurd (let z : ◌≡◌ {A = ℕ} 0 1 = cc in omega arith)
from-held (suc left) slots [] e = let h = finish-held slots e in omega arith
from-held (suc left) slots (b ∷ s) {p} e =
    by-record (λ next. from-held left next.slots (drop next.len (b ∷ s))) (read_record slots (b ∷ s)) refl e
  where
    by-record : ((next : Next) → read_from left next.slots (drop next.len (b ∷ s)) ≡ done p → 2 + weight p ≤ held next.slots + 3 * left)
        → (a : Answer Next) → read_record slots (b ∷ s) ≡ a
        → (a >>= λ next. read_from left next.slots (drop next.len (b ∷ s))) ≡ done p
        → 2 + weight p ≤ held slots + 3 * suc left
    by-record after (done next) q e =
        let h = after next e in
        let adds = reading-adds slots (b ∷ s) q in
        omega arith
    by-record after (refused n) q e = absurd (let z : ◌≡◌ {A = ℕ} 0 1 = cc in omega arith)

-- 64 records of 3 each, but for the 2 of the root, which is nobody's child
pub weight-bounded : (bytes : List ℕ) {p : Policy} → read_policy bytes ≡ done p → weight p ≤ max_weight
unfolding read_policy held
weight-bounded bytes e = let h = from-held 64 [] bytes e in omega arith

-- ---- what `read_policy` answers

module _ (bytes m₀ m : List ℕ) {r : Result ℕ Refusal} (read : PolicyRead bytes m₀ r m) where
  -- what `weight` asks for holds of its root
  pub weighable : (root : ℕ) → r ≡ Ok root → Good m × ((root < max_records) × (weight (policy_at m root) ≤ max_weight))
  weighable root e = by_answer read
    where
      by_answer : PolicyRead bytes m₀ r m → Good m × ((root < max_records) × (weight (policy_at m root) ≤ max_weight))
      by_answer (reads long told) =
          let good : PolicyGood (Ok root) m = rw e at told.good in
          let is : read_policy bytes ≡ done (policy_at m root) = some_same (told.says ∙ rw e) in
          (good.0, (good.1, weight-bounded bytes is))
      by_answer (bad-array short q) = absurd (let z : ◌≡◌ {A = ℕ} 0 1 = cc in omega arith)
