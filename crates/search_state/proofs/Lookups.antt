-- Asking for a table by the number of its policy's class is asking for it by its policy. Assumes nothing.
use mathlib.Core.Path.{◌≡◌, refl, sym, ap, ◌∙◌}
use mathlib.Core.Bool.{Bool, true, false, cond, ◌&&◌}
use mathlib.Core.List.{List, map}
use Rattle.std.specs.Prelude.{Option, None, Some, is_some, Result, Ok, Err, is_ok}
use Prim.Native.Nat.{ℕ, zero, suc, ◌<◌, ◌≤◌}
use native.Mathlib.Omega.{arith}
use borrow.Author.Tests.{eqb-true, eqb-false}
use lib.Dec.{eqb}
use lib.Ieee.{Float}
use Rattle.policies.specs.Policy.{Policy}
use Rattle.policies.specs.Array.{policy_at, Named}
use Rattle.classes.specs.Classes.{class_at}
use Rattle.classes.proofs.Laws.{equal-classes, equal-policies}
use Rattle.classes.proofs.Places.{named-below}
use Rattle.candidates.specs.declared.Candidate.{Candidate}
use Rattle.candidates.specs.declared.NotMade.{NotMade}
use Rattle.definition.specs.SamePolicy.{same}
use Rattle.definition.specs.Tables.{Probs, Table, probs}
use Rattle.definition.specs.Refusals.{same_probs, lookup}
use Rattle.definition_laws.proofs.SamePolicies.{same_self, same_not}
use Rattle.definition_laws.proofs.Steps.{lookup-none, lookup-found, lookup-other}
use Rattle.memory.specs.Layout.{table_count}
use Rattle.cache.specs.Slots.{Slot, slot_at, slots_up_to}
use Rattle.cache.specs.Lookup.{same_key, find_up_to, find_in}
use Rattle.search_state.specs.State.{stored_as, stored_all, slot_table, Classed, SlotHolds, Ready}
use Rattle.search_state.specs.Recalled.{Recalled, found, new, is_found, settles_with}

-- ---- classes

-- a number and its class fit sixteen bits
pub class-small : {pol : List ℕ} → Classed pol → (r : ℕ) → Named pol r → (r < 65536) × (class_at pol r < 65536)
class-small {pol} classed r named =
    let a : r < 1088 = named-below pol r classed.good named in
    let b : class_at pol r < 1088 = named-below pol (class_at pol r) classed.good (classed.classes r named).stands.named in
    (omega arith, omega arith)

-- a class is its own class
pub class-again : {pol : List ℕ} → Classed pol → (r : ℕ) → Named pol r → class_at pol (class_at pol r) ≡ class_at pol r
class-again {pol} classed r named =
    let stands = (classed.classes r named).stands in
    equal-classes pol classed.classes (class_at pol r) r stands.named named stands.same

-- ---- keys

same-of-equal : (p q : Policy) → p ≡ q → same p q ≡ true
same-of-equal p q e = ap (same p) (sym e) ∙ same_self p

module _ {pol m : List ℕ} (classed : Classed pol) (ready : Ready pol m) (r : ℕ) (named : Named pol r) where
  -- the same policy is the same class
  pub same_class : (t : Slot) → SlotHolds pol m t → same (policy_at pol r) (policy_at pol t.number) ≡ eqb (class_at pol r) t.number
  same_class t h = by-test (eqb (class_at pol r) t.number) refl
    where
      by-test : (b : Bool) → eqb (class_at pol r) t.number ≡ b → same (policy_at pol r) (policy_at pol t.number) ≡ b
      by-test true e =
          same-of-equal (policy_at pol r) (policy_at pol t.number)
          (equal-policies pol classed.classes r t.number named h.named (eqb-true (class_at pol r) t.number e ∙ sym h.class))
      by-test false e =
          same_not (policy_at pol r) (policy_at pol t.number)
          (λ q. eqb-false (class_at pol r) t.number e (equal-classes pol classed.classes r t.number named h.named q ∙ h.class))

  module _ (sat : Float) (dissat : Option Float) where
    key-same : (t : Slot) → SlotHolds pol m t →
        (same (policy_at pol r) (policy_at pol t.number) && same_probs (probs sat dissat) (probs t.sat t.dissat))
        ≡ same_key (class_at pol r) sat dissat t
    key-same t h =
        ap (λ (b : Bool). b && same_probs (probs sat dissat) (probs t.sat t.dissat)) (same_class t h)

    -- what is looked up among the first n tables
    looked : ℕ → Option Table
    looked n = lookup (policy_at pol r) (probs sat dissat) (map (stored_as pol m) (slots_up_to m n))

    abbrev LooksUp : ℕ → Option ℕ → Type 0
    LooksUp n (Some s) = (s < n) × (looked n ≡ Some (slot_table pol m s))
    LooksUp n None = looked n ≡ None

    looked-none : looked 0 ≡ None
    unfolding looked slots_up_to
    looked-none = lookup-none (policy_at pol r) (probs sat dissat)

    looked-found : (n : ℕ) → SlotHolds pol m (slot_at m n) → same_key (class_at pol r) sat dissat (slot_at m n) ≡ true
        → looked (suc n) ≡ Some (slot_table pol m n)
    unfolding looked slots_up_to
    looked-found n h e =
        lookup-found (policy_at pol r) (probs sat dissat) (stored_as pol m (slot_at m n)) (map (stored_as pol m) (slots_up_to m n))
        (key-same (slot_at m n) h ∙ e)

    looked-other : (n : ℕ) → SlotHolds pol m (slot_at m n) → same_key (class_at pol r) sat dissat (slot_at m n) ≡ false
        → looked (suc n) ≡ looked n
    unfolding looked slots_up_to
    looked-other n h e =
        lookup-other (policy_at pol r) (probs sat dissat) (stored_as pol m (slot_at m n)) (map (stored_as pol m) (slots_up_to m n))
        (key-same (slot_at m n) h ∙ e)

    looks_on : (n : ℕ) → looked (suc n) ≡ looked n → (f : Option ℕ) → LooksUp n f → LooksUp (suc n) f
    looks_on n e (Some s) l = (omega (arith, l.0), e ∙ l.1)
    looks_on n e None l = e ∙ l

    looks-up : (n : ℕ) → n ≤ table_count m → LooksUp n (find_up_to m n (class_at pol r) sat dissat)
    unfolding find_up_to
    looks-up zero h = looked-none
    looks-up (suc n) h =
        by_key (looks-up n (omega arith)) (same_key (class_at pol r) sat dissat (slot_at m n)) refl
      where
        holds : SlotHolds pol m (slot_at m n)
        holds = ready.slots n (omega arith)

        by_key : LooksUp n (find_up_to m n (class_at pol r) sat dissat) → (b : Bool) → same_key (class_at pol r) sat dissat (slot_at m n) ≡ b
            → LooksUp (suc n) (cond b (Some n) (find_up_to m n (class_at pol r) sat dissat))
        by_key older true e = (omega arith, looked-found n holds e)
        by_key older false e = looks_on n (looked-other n holds e) (find_up_to m n (class_at pol r) sat dissat) older

    recalled-as : (f : Option ℕ) → LooksUp (table_count m) f → Recalled pol m (policy_at pol r) (probs sat dissat) f
    unfolding looked
    recalled-as (Some s) l = found l.0 l.1
    recalled-as None l = new l

    -- what is found under a class is what the definition looks up
    pub recalled : {k : ℕ} {f : Option ℕ} → k ≡ class_at pol r → f ≡ find_in m k sat dissat → Recalled pol m (policy_at pol r) (probs sat dissat) f
    recalled e q = rw (q, e) (recalled-as (find_in m (class_at pol r) sat dissat) (looks-up (table_count m) (omega arith)))

-- ---- whether a table is remembered

module _ {pol m : List ℕ} {q : Policy} {p : Probs} where
  pub recalled-is : {f : Option ℕ} → Recalled pol m q p f → is_some f ≡ is_found (lookup q p (stored_all pol m))
  recalled-is (found l e) = sym (ap is_found e)
  recalled-is (new e) = sym (ap is_found e)

-- ---- whether a table is settled

pub settles-as : (x : Result Candidate NotMade) (dissat : Option Float) (t : Option Table)
    → (is_ok x && is_some dissat) && is_found t ≡ settles_with x dissat t
settles-as (Ok y) (Some d) t = refl
settles-as (Ok y) None t = refl
settles-as (Err e) dissat t = refl
