-- Whatever is read from bytes is a policy that can be written: specs/FormedPolicy.antt.
use mathlib.Core.Path.{◌≡◌, refl, ap, sym, subst, ◌∙◌}
use mathlib.Core.Bool.{Bool, true, false, cond}
use mathlib.Core.List.{List, [], ◌∷◌}
use Rattle.std.specs.Prelude.{Option, None, Some}
use Prim.Native.Nat.{ℕ, zero, suc, ◌≤◌}
use native.Mathlib.Omega.{arith}
use borrow.Author.Tests.{eqb-true}
use lib.Dec.{eqb, leb}
use lib.ListN.{length, set, take, drop, length-map}
use Rattle.records.specs.Shapes.{look_up, shape_of}
use Rattle.records.specs.Payloads.{Payload, payload_of, children_of, number_of, k_of, left_weight_of, right_weight_of}
use Rattle.records.specs.RecordForm.{record_length, kind_of, policy_payload}
use Rattle.records.specs.declared.Shape.{Shape}
use Rattle.records.specs.declared.Shape.TheVariants as Shape
use Rattle.records.proofs.Laws.{policy-record, is_number, is-lock, is-weighted, is-threshold, lock-bounds, threshold-bounds}
use Rattle.policies.specs.Policy.{Policy, to_list, from_list, depth}
use Rattle.policies.specs.Forms.{made, nth, and_kind, or_kind, thresh_kind}
use Rattle.policies.specs.Reading.{bad_policy, zero_weight, policy_too_large, max_records, max_depth, Answer, refused, done, ◌>>=◌, or_refuse, refuse_if}
use Rattle.policies.specs.Reading.{Slots, slot, if_there, without, the_policy, those, weighs_nothing, Next, read_whole, read_record, root_of, finish}
use Rattle.policies.specs.Reading.{read_from, read_policy}
use Rattle.policies.proofs.Forms.{to-from}
use Rattle.writing.specs.WellFormed.{AllBelow, IsU32, IsU64, IsLock, IsThreshold}
use Rattle.writing.proofs.Kept.{no-some, below-take, below-drop}
use Rattle.writing.proofs.WellRead.{number-below, key_below, short-below}
use Rattle.records.proofs.Widths.{short-policy}
use Rattle.definition_laws.specs.FormedPolicy.{FormedPolicy, AllFormed}
use Rattle.definition_laws.specs.Laws.{All, nobody, ◌and◌, IfSome, none_is, some_is}
use Rattle.definition_laws.proofs.Inserting.{all_append}

-- ---- answers

-- what is done is as P says
data IfDone {A : Type 0} (P : A → Type 0) : Answer A → Type 0 where
  refused_is : {n : ℕ} → IfDone P (refused n)
  done_is : {a : A} → P a → IfDone P (done a)

then_is : {A B : Type 0} {P : A → Type 0} {Q : B → Type 0} {r : Answer A} {next : A → Answer B} → IfDone P r →
    ((a : A) → P a → IfDone Q (next a)) → IfDone Q (r >>= next)
then_is refused_is k = refused_is
then_is (done_is {a} h) k = k a h

given : {A : Type 0} (n : ℕ) (o : Option A) → IfDone (λ a. o ≡ Some a) (or_refuse n o)
given n (Some a) = done_is refl
given n None = refused_is

unless : {A : Type 0} {P : A → Type 0} (n : ℕ) (b : Bool) (a : A) → P a → IfDone P (refuse_if n b a)
unless n true a h = refused_is
unless n false a h = done_is h

if-within : {A : Type 0} {P : A → Type 0} (n : ℕ) (b : Bool) (a : A) → P a → IfDone P (cond b (done a) (refused n))
if-within n true a h = done_is h
if-within n false a h = refused_is

is-done : {A : Type 0} {P : A → Type 0} {a : A} → IfDone P (done a) → P a
is-done (done_is h) = h

-- ---- slots

-- every slot that holds a policy holds one that can be written
abbrev Held : Slots → Type 0
Held = All (IfSome FormedPolicy)

held_at : {slots : Slots} (j : ℕ) → Held slots → IfSome FormedPolicy (slot slots j)
held_at j nobody = none_is
held_at zero (h and hs) = h
held_at (suc j) (h and hs) = held_at j hs

held-set : {slots : Slots} (j : ℕ) → Held slots → Held (set slots j None)
held-set j nobody = nobody
held-set zero (h and hs) = none_is and hs
held-set (suc j) (h and hs) = h and held-set j hs

held-without : (js : List ℕ) {slots left : Slots} → Held slots → without js slots ≡ Some left → Held left
unfolding without
held-without [] {slots} {left} h e = (let same : slots ≡ left = cc in subst Held same h)
held-without (j ∷ js) {slots} {left} h e = by-slot (slot slots j) (λ e. held-without js (held-set j h) e) e
  where
    by-slot : (o : Option Policy) → (without js (set slots j None) ≡ Some left → Held left) →
        if_there o (without js (set slots j None)) ≡ Some left → Held left
    by-slot (Some q) next e = next e
    by-slot None next e = absurd (no-some e)

held-root : {slots : Slots} {q : Policy} → Held slots → root_of slots ≡ Some q → FormedPolicy q
unfolding root_of
held-root nobody e = absurd (no-some e)
held-root {q} (◌and◌ (some_is {x} h) nobody) e = (let same : x ≡ q = cc in subst FormedPolicy same h)
held-root (none_is and nobody) e = absurd (no-some e)
held-root (none_is and (h and hs)) e = held-root (h and hs) e
held-root (some_is g and (h and hs)) e = absurd (no-some e)

the-policy : {o : Option Policy} → IfSome FormedPolicy o → FormedPolicy (the_policy o)
unfolding FormedPolicy
the-policy none_is = tt
the-policy (some_is h) = h

-- the children that a record names

those-formed : (js : List ℕ) {slots : Slots} → Held slots → All FormedPolicy (those js slots)
those-formed [] h = nobody
those-formed (j ∷ js) h = the-policy (held_at j h) and those-formed js h

as_many : (js : List ℕ) (slots : Slots) → length (those js slots) ≡ length js
as_many js slots = length-map js (λ j. the_policy (slot slots j))

-- ---- the policy that a record writes

nth-formed : {cs : List Policy} (j : ℕ) → All FormedPolicy cs → FormedPolicy (nth cs j)
unfolding FormedPolicy
nth-formed j nobody = tt
nth-formed zero (h and hs) = h
nth-formed (suc j) (h and hs) = nth-formed j hs

all-formed : {cs : List Policy} → All FormedPolicy cs → AllFormed (from_list cs)
unfolding FormedPolicy from_list
all-formed nobody = tt
all-formed (h and hs) = (h, all-formed hs)

-- one of two policies, by the kind
by_kind : (kind n : ℕ) (x y : Policy) → (kind ≡ n → FormedPolicy x) → FormedPolicy y → FormedPolicy (cond (eqb kind n) x y)
by_kind kind n x y h k = by-test (eqb kind n) refl
  where
    by-test : (b : Bool) → eqb kind n ≡ b → FormedPolicy (cond b x y)
    by-test true e = h (eqb-true kind n e)
    by-test false e = k

module _ (s : List ℕ) {p : Payload} (below : AllBelow 256 s) (e : policy_payload s ≡ Some p) where
  -- a record is of its kind's shape
  shape-known : (kind : ℕ) {shape : Shape} → shape_of kind ≡ Some shape → kind_of s ≡ kind → payload_of shape s ≡ Some p
  shape-known kind known k = rw (k, known) at (policy-record s e).1

  key-fine : shape_of 3 ≡ Some Shape.Number → kind_of s ≡ 3 → IsU64 (number_of p)
  key-fine known k = rw (is_number s (shape-known 3 known k)) (key_below s below)

  hash-fine : (kind : ℕ) → 6 ≤ kind → kind ≤ 9 → shape_of kind ≡ Some Shape.Number → kind_of s ≡ kind → IsU32 (number_of p)
  hash-fine kind low high known k =
      rw (is_number s (shape-known kind known k)) (short-below s below (short-policy s (omega (arith, k)) (omega (arith, k))))

  lock-fine : (kind : ℕ) → shape_of kind ≡ Some Shape.Lock → kind_of s ≡ kind → IsLock (number_of p)
  lock-fine kind known k =
      let shaped = shape-known kind known k in
      let this = is-lock s shaped in
      rw this (lock-bounds s (shaped ∙ ap Some this))

  weights-fine : shape_of or_kind ≡ Some Shape.Weighted → kind_of s ≡ or_kind → IsU32 (left_weight_of p) × IsU32 (right_weight_of p)
  weights-fine known k = rw (is-weighted s (shape-known or_kind known k)) (number-below 4 s 8 below, number-below 4 s 12 below)

  threshold-fine : shape_of thresh_kind ≡ Some Shape.Threshold → kind_of s ≡ thresh_kind → IsThreshold (k_of p) (length (children_of p))
  threshold-fine known k =
      let shaped = shape-known thresh_kind known k in
      let this = is-threshold s shaped in
      rw this (threshold-bounds s (shaped ∙ ap Some this))

  made-formed : (cs : List Policy) → All FormedPolicy cs → length cs ≡ length (children_of p) →
      FormedPolicy (made (kind_of s) (number_of p) (k_of p) (left_weight_of p) (right_weight_of p) cs)
  unfolding made FormedPolicy shape_of look_up
  made-formed cs hs l =
      by_kind (kind_of s) 2 _ _ (λ k. tt)
      (by_kind (kind_of s) 3 _ _ (key-fine refl)
      (by_kind (kind_of s) 4 _ _ (lock-fine 4 refl)
      (by_kind (kind_of s) 5 _ _ (lock-fine 5 refl)
      (by_kind (kind_of s) 6 _ _ (hash-fine 6 (omega arith) (omega arith) refl)
      (by_kind (kind_of s) 7 _ _ (hash-fine 7 (omega arith) (omega arith) refl)
      (by_kind (kind_of s) 8 _ _ (hash-fine 8 (omega arith) (omega arith) refl)
      (by_kind (kind_of s) 9 _ _ (hash-fine 9 (omega arith) (omega arith) refl)
      (by_kind (kind_of s) and_kind _ _ (λ k. (nth-formed 0 hs, nth-formed 1 hs))
      (by_kind (kind_of s) or_kind _ _ (λ k. (nth-formed 0 hs, nth-formed 1 hs, weights-fine refl k))
      (by_kind (kind_of s) thresh_kind _ _ (λ k. (subst (IsThreshold (k_of p)) as_many (threshold-fine refl k), all-formed hs))
      tt))))))))))
    where
      as_many : length (children_of p) ≡ length (to_list (from_list cs))
      as_many = sym (ap length (to-from cs) ∙ l)

-- ---- records, one after another

-- what one record leaves
abbrev HeldNext : Next → Type 0
HeldNext next = Held next.slots

whole-formed : (slots : Slots) (len : ℕ) (s : List ℕ) → AllBelow 256 s → Held slots → IfDone HeldNext (read_whole slots len s)
unfolding read_whole
whole-formed slots len s below h =
    then_is (given bad_policy (policy_payload s)) λ p e.
    then_is (given bad_policy (without (children_of p) slots)) λ left k.
    unless zero_weight (weighs_nothing (kind_of s) p) _
    (all_append (held-without (children_of p) h k)
    (some_is (made-formed s below e (those (children_of p) slots) (those-formed (children_of p) h) (as_many (children_of p) slots)) and nobody))

record-formed : (slots : Slots) (s : List ℕ) → AllBelow 256 s → Held slots → IfDone HeldNext (read_record slots s)
unfolding read_record
record-formed slots s below h =
    then_is (given bad_policy (record_length s)) λ len e. whole-formed slots len (take len s) (below-take 256 len s below) h

finish-formed : (slots : Slots) → Held slots → IfDone FormedPolicy (finish slots)
unfolding finish
finish-formed slots h = then_is (given bad_policy (root_of slots)) λ root e. if-within policy_too_large (leb (depth root) max_depth) root (held-root h e)

from-formed : (left : ℕ) (slots : Slots) (s : List ℕ) → AllBelow 256 s → Held slots → IfDone FormedPolicy (read_from left slots s)
unfolding read_from
from-formed zero slots [] below h = finish-formed slots h
from-formed zero slots (b ∷ bs) below h = refused_is
from-formed (suc left) slots [] below h = finish-formed slots h
from-formed (suc left) slots (b ∷ bs) below h =
    then_is (record-formed slots (b ∷ bs) below h) λ next k.
    from-formed left next.slots (drop next.len (b ∷ bs)) (below-drop 256 next.len (b ∷ bs) below) k

pub reads-formed : (bytes : List ℕ) → AllBelow 256 bytes → (q : Policy) → read_policy bytes ≡ done q → FormedPolicy q
unfolding read_policy
reads-formed bytes below q e = is-done (subst (IfDone FormedPolicy) e (from-formed max_records [] bytes below nobody))
