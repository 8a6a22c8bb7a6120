-- The records of some bytes, one by one: what is still to come of the reading gives what the reading of all gives. Assumes nothing.
use Rattle.refusals.specs.declared.Refusal.{Refusal}
use mathlib.Core.Path.{◌≡◌, refl, sym, subst, ◌∙◌, ap}
use mathlib.Core.Bool.{Bool, true, false}
use mathlib.Core.List.{List, [], ◌∷◌, ◌++◌}
use Rattle.std.specs.Prelude.{Option, None, Some, Result, Ok, Err}
use Prim.Native.Nat.{ℕ, zero, suc, ◌+◌, ◌-◌, ◌<◌, ◌≤◌}
use native.Mathlib.Numerals.{add-one}
use native.Mathlib.Omega.{arith}
use lib.ListN.{length, take, drop, length-drop, drop_of_length-le}
use lib.Seq.{drop-drop, length-take-le}
use Rattle.records.specs.Payloads as payload
use Rattle.records.specs.Payloads.{Payload}
use Rattle.records.specs.RecordForm.{record_length, kind_of, policy_payload}
use Rattle.records.proofs.Laws.{length-bounds, whole_length, broken-length}
use Rattle.policies.specs.Reading.{refused, done, ◌>>=◌, Next, Slots, read_whole, read_record, read_from, read_policy, finish, or_refuse}
use Rattle.policies.specs.Reading.{refuse_if}
use Rattle.policies.specs.Reading.{without, weighs_nothing, written}
use Rattle.policies.specs.Array.{slots_at, Good}
use Rattle.policies.specs.Answers.{Stepped, StepGood, step_answer, AllRead}

-- ---- the first record of some bytes

pub record-broken : (s : List ℕ) (at : ℕ) (m m₂ : List ℕ) (i : ℕ) {r : Option ℕ} → r ≡ record_length (drop at s)
    → r ≡ None
    → Stepped (read_record (slots_at m i) (drop at s)) (Err Refusal.BadPolicy) m₂ i
unfolding read_record
record-broken s at m m₂ i e b = record { says = rw (broken-length s at e b); good = λ z. omega arith }

-- the end of a whole record is within the bytes
pub record-end : (s : List ℕ) (at : ℕ) {r : Option ℕ} {n : ℕ} → at ≤ length s → r ≡ record_length (drop at s)
    → r ≡ Some n
    → at + n ≤ length s
record-end s at h e w =
    let b = length-bounds (drop at s) (whole_length s at e w) in
    let l : length (drop at s) ≡ length s - at = length-drop at s in
    omega (arith, b.1)

-- n bytes from `at` on, as a part that ends at `at + n`
pub record-whole : (s : List ℕ) (at : ℕ) (m m₂ : List ℕ) (i n : ℕ) {r : Option ℕ} {step : Result ℕ Refusal}
    → r ≡ record_length (drop at s) → r ≡ Some n
    → Stepped (read_whole (slots_at m i) (length (take (at + n - at) (drop at s))) (take (at + n - at) (drop at s))) step m₂ i
    → Stepped (read_record (slots_at m i) (drop at s)) step m₂ i
unfolding read_record
record-whole s at m m₂ i n {r} {step} e w stepped =
    let whole = whole_length s at e w in
    let b = length-bounds (drop at s) whole in
    let l : length (take n (drop at s)) ≡ n = length-take-le n (drop at s) b.1 in
    let k : at + n - at ≡ n = omega arith in
    let says : read_whole (slots_at m i) n (take n (drop at s)) ≡ step_answer step m₂ i = rw (k, l) at stepped.says in
    record { says = rw whole says; good = stepped.good }

-- ---- how far a record goes

whole-len : (slots : Slots) (len : ℕ) (s : List ℕ) {next : Next} → read_whole slots len s ≡ done next → next.len ≡ len
unfolding read_whole
whole-len slots len s {next} e = by-payload (policy_payload s) e
  where
    by_weights : (b : Bool) (after : Slots) → refuse_if 4 b (record { len = len; slots = after }) ≡ done next → next.len ≡ len
    by_weights true after e = cc
    by_weights false after e =
        let same : next ≡ record { len = len; slots = after } = cc in
        ap (λ (x : Next). x.len) same

    by_left : (p : Payload) (o : Option Slots)
        → (or_refuse 3 o
        >>= λ left. refuse_if 4 (weighs_nothing (kind_of s) p) (record { len = len; slots = left ++ (Some (written (kind_of s) p slots) ∷ []) }))
        ≡ done next
        → next.len ≡ len
    by_left p (Some left) e = by_weights (weighs_nothing (kind_of s) p) (left ++ (Some (written (kind_of s) p slots) ∷ [])) e
    by_left p None e = cc

    by-payload : (o : Option Payload)
        → (or_refuse 3 o
        >>= λ p. or_refuse 3 (without (payload.children_of p) slots)
        >>= λ left. refuse_if 4 (weighs_nothing (kind_of s) p) (record { len = len; slots = left ++ (Some (written (kind_of s) p slots) ∷ []) }))
        ≡ done next
        → next.len ≡ len
    by-payload (Some p) e = by_left p (without (payload.children_of p) slots) e
    by-payload None e = cc

-- a record is at least one byte, and within the bytes
record-moves : (slots : Slots) (s : List ℕ) {next : Next} → read_record slots s ≡ done next → (1 ≤ next.len) × (next.len ≤ length s)
unfolding read_record
record-moves slots s {next} e = by_length (record_length s) refl e
  where
    by_length : (o : Option ℕ) → record_length s ≡ o → (or_refuse 3 o >>= λ len. read_whole slots len (take len s)) ≡ done next
        → (1 ≤ next.len) × (next.len ≤ length s)
    by_length (Some n) q e =
        let b = length-bounds s q in
        let l = whole-len slots n (take n s) e in
        (omega (arith, b.0, l), omega (arith, b.1, l))
    by_length None q e = absurd (let z : ◌≡◌ {A = ℕ} 0 1 = cc in omega arith)

-- ---- the loop

-- after i records, which end before `at`
pub record ReadInv (bytes m : List ℕ) (at i : ℕ) : Type 0 where
  pub within : at ≤ length bytes
  pub few : i ≤ 64
  pub still : read_from (64 - i) (slots_at m i) (drop at bytes) ≡ read_policy bytes
  pub good : Good m

pub read-starts : (bytes m : List ℕ) → Good m → ReadInv bytes m 0 0
unfolding read_policy slots_at
read-starts bytes m g = record { within = omega arith; few = omega arith; still = refl; good = g }

ends : (left : ℕ) (slots : Slots) → read_from left slots [] ≡ finish slots
unfolding read_from
ends zero slots = refl
ends (suc left) slots = refl

begins : (left : ℕ) (slots : Slots) (s : List ℕ) → 1 ≤ length s
    → read_from (suc left) slots s ≡ read_record slots s >>= λ next. read_from left next.slots (drop next.len s)
unfolding read_from
begins left slots [] h = absurd (omega arith)
begins left slots (b ∷ s) h = refl

too_many : (slots : Slots) (s : List ℕ) → 1 ≤ length s → read_from 0 slots s ≡ refused 5
unfolding read_from
too_many slots [] h = absurd (omega arith)
too_many slots (b ∷ s) h = refl

module _ (bytes m : List ℕ) (at i : ℕ) (inv : ReadInv bytes m at i) where
  pub read-ends : length bytes ≤ at → AllRead (read_policy bytes) (Ok i) m
  read-ends h =
      record {
        says = sym inv.still ∙ rw (drop_of_length-le bytes {i = at} h) (ends (64 - i) (slots_at m i));
        good = (inv.good, inv.few);
      }

  module _ (l : at < length bytes) where
    some_left : 1 ≤ length (drop at bytes)
    some_left = rw (length-drop at bytes) (omega arith)

    pub read-too-many : i ≡ 64 → (m₂ : List ℕ) → AllRead (read_policy bytes) (Err Refusal.PolicyTooLarge) m₂
    read-too-many e m₂ =
        let k : 64 - i ≡ 0 = omega arith in
        record { says = sym inv.still ∙ rw k (too_many (slots_at m i) (drop at bytes) some_left); good = λ z. omega arith }

    module _ (ne : i ≡ 64 → ⊥) {step : Result ℕ Refusal} {m₂ : List ℕ} (stepped : Stepped (read_record (slots_at m i) (drop at bytes)) step m₂ i) where
      from-record : read_policy bytes
          ≡ read_record (slots_at m i) (drop at bytes) >>= λ next. read_from (64 - (i + 1)) next.slots (drop next.len (drop at bytes))
      from-record =
          let few : i ≤ 64 = inv.few in
          let k : 64 - i ≡ suc (64 - (i + 1)) = omega (arith, ne) in
          sym inv.still ∙ rw k (begins (64 - (i + 1)) (slots_at m i) (drop at bytes) some_left)

      pub read-refused : {r : Refusal} → step ≡ Err r → AllRead (read_policy bytes) (Err r) m₂
      read-refused e = record { says = from-record ∙ rw (stepped.says, e); good = subst (λ (x : Result ℕ Refusal). StepGood x m₂) e stepped.good }

      module _ (n : ℕ) (e : step ≡ Ok n) where
        answered : read_record (slots_at m i) (drop at bytes) ≡ done (record { len = n; slots = slots_at m₂ (suc i) })
        answered = stepped.says ∙ rw e

        pub read-moves : (1 ≤ n) × (at + n ≤ length bytes)
        read-moves =
            let b = record-moves (slots_at m i) (drop at bytes) answered in
            let k : length (drop at bytes) ≡ length bytes - at = length-drop at bytes in
            (b.0, omega (arith, b.1))

        pub read_more : ReadInv bytes m₂ (at + n) (i + 1)
        read_more =
            let few : i ≤ 64 = inv.few in
            record {
              within = read-moves.1;
              few = omega (arith, ne);
              still = sym (from-record ∙ rw (answered, drop-drop n at bytes, ← add-one i));
              good = next-good step e stepped.good;
            }
          where
            next-good : (step : Result ℕ Refusal) → step ≡ Ok n → StepGood step m₂ → Good m₂
            next-good (Ok k) e g = g
            next-good (Err r) e g = absurd (let z : ◌≡◌ {A = ℕ} 0 1 = cc in omega arith)
