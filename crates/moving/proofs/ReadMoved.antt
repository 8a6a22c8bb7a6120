-- A policy that is read, record by record, and the same policy moved. Assumes nothing.
use mathlib.Core.Path.{◌≡◌, refl, sym, ap, subst, ◌∙◌}
use mathlib.Core.Bool.{Bool, true, false, ◌||◌}
use mathlib.Core.List.{List, [], ◌∷◌, ◌++◌, map}
use Rattle.std.specs.Prelude.{Option, None, Some}
use Prim.Native.Nat.{ℕ, zero, suc, ◌≤◌}
use native.Mathlib.Omega.{arith}
use lib.ListN.{length, take, drop, length-append, take-append-drop}
use lib.Seq.{take-append_seam, drop-append_seam}
use Rattle.words.specs.Bytes.{le_at}
use Rattle.records.specs.Payloads.{Payload, children_of}
use Rattle.records.specs.RecordForm.{record_length, kind_of, policy_payload}
use Rattle.writing.specs.WellFormed.{AllBelow}
use Rattle.writing.proofs.Kept.{below-take, below-drop}
use Rattle.policies.specs.Policy.{Policy}
use Rattle.policies.specs.Reading.{Answer, refused, done, ◌>>=◌, or_refuse, refuse_if, Slots, Next, without, weighs_nothing, written}
use Rattle.policies.specs.Reading.{bad_policy, zero_weight, read_whole, read_record, read_from, finish}
use Rattle.moving.specs.declared.Form.{Form}
use Rattle.moving.specs.Moving.{moved, too_large, records_from, in_order, any}
use Rattle.moving.proofs.Records.{rest, large, next, no_more}
use Rattle.moving.proofs.OneKey.{Whole, Fine, whole-front, whole-taken, moved-whole, moved-kind, moved-payload}

-- ---- answers

pub not_done : {A : Type 0} {n : ℕ} {x : A} → refused n ≡ done x → ⊥
not_done e = let z : ◌≡◌ {A = ℕ} 0 1 = cc in omega arith

given-some : {A : Type 0} (n : ℕ) (o : Option A) {a : A} → or_refuse n o ≡ done a → o ≡ Some a
given-some n (Some b) e = cc
given-some n None e = absurd (not_done e)

pub then-done : {A B : Type 0} (r : Answer A) (next : A → Answer B) {b : B} → (r >>= next) ≡ done b → (a : A) × (r ≡ done a) × (next a ≡ done b)
then-done (done a) next e = (a, refl, e)
then-done (refused n) next e = absurd (not_done e)

pub not-refused : {A : Type 0} (n : ℕ) (t : Bool) {a b : A} → refuse_if n t a ≡ done b → (t ≡ false) × (b ≡ a)
not-refused n true e = absurd (not_done e)
not-refused n false e = (refl, cc)

-- ---- one record

pub record Taken (slots : Slots) (s : List ℕ) (next : Next) : Type 0 where
  pub len : ℕ
  pub found : record_length s ≡ Some len
  pub payload : Payload
  pub fits : policy_payload (take len s) ≡ Some payload
  pub left : Slots
  pub kept : without (children_of payload) slots ≡ Some left
  pub weighs : weighs_nothing (kind_of (take len s)) payload ≡ false
  pub is : next ≡ record { len = len; slots = left ++ (Some (written (kind_of (take len s)) payload slots) ∷ []) }

pub taken : (slots : Slots) (s : List ℕ) {next : Next} → read_record slots s ≡ done next → Taken slots s next
unfolding read_record read_whole
taken slots s {next} e =
    let a = then-done (or_refuse bad_policy (record_length s)) (λ len. read_whole slots len (take len s)) e in
    let len : ℕ = a.0 in
    let whole : List ℕ = take len s in
    let b = then-done (or_refuse bad_policy (policy_payload whole))
    (λ p. or_refuse bad_policy (without (children_of p) slots)
    >>= λ left. refuse_if zero_weight (weighs_nothing (kind_of whole) p) (record { len = len; slots = left ++ (Some (written (kind_of whole) p slots) ∷ []) }))
    a.2 in
    let p : Payload = b.0 in
    let c = then-done (or_refuse bad_policy (without (children_of p) slots))
    (λ left. refuse_if zero_weight (weighs_nothing (kind_of whole) p) (record { len = len; slots = left ++ (Some (written (kind_of whole) p slots) ∷ []) }))
    b.2 in
    let d = not-refused zero_weight (weighs_nothing (kind_of whole) p) c.2 in
    record {
      len = len;
      found = given-some bad_policy (record_length s) a.1;
      payload = p;
      fits = given-some bad_policy (policy_payload whole) b.1;
      left = c.0;
      kept = given-some bad_policy (without (children_of p) slots) c.1;
      weighs = d.0;
      is = d.1;
    }

-- the same of a whole record that others follow
pub read-there : (slots : Slots) (r t : List ℕ) {p : Payload} {left : Slots} → Whole r → policy_payload r ≡ Some p → without (children_of p) slots ≡ Some left
    → weighs_nothing (kind_of r) p ≡ false
    → read_record slots (r ++ t) ≡ done (record { len = length r; slots = left ++ (Some (written (kind_of r) p slots) ∷ []) })
unfolding read_record read_whole
read-there slots r t w p k z = rw (whole-front r t w, take-append_seam r t, p, k, z)

-- ---- all records

empty-none : record_length [] ≡ None
unfolding le_at
empty-none = refl

begins : (most : ℕ) (slots : Slots) (s : List ℕ) → 1 ≤ length s
    → read_from (suc most) slots s ≡ read_record slots s >>= λ next. read_from most next.slots (drop next.len s)
unfolding read_from
begins most slots [] h = absurd (omega arith)
begins most slots (b ∷ s) h = refl

-- what is left to read is nothing, or a record and then others
pub no_room : (slots : Slots) (s : List ℕ) {q : Policy} → read_from 0 slots s ≡ done q → (s ≡ []) × (finish slots ≡ done q)
unfolding read_from
no_room slots [] e = (refl, e)
no_room slots (b ∷ s) e = absurd (not_done e)

pub data Reading (q : Policy) (most : ℕ) (slots : Slots) (s : List ℕ) : Type 0 where
  ends : s ≡ [] → finish slots ≡ done q → Reading q most slots s
  goes_on : (after : Next) (one : Taken slots s after) → read_from most after.slots (drop one.len s) ≡ done q → Reading q most slots s

pub reading : (most : ℕ) (slots : Slots) (s : List ℕ) {q : Policy} → read_from (suc most) slots s ≡ done q → Reading q most slots s
unfolding read_from
reading most slots [] e = ends refl e
reading most slots (b ∷ s) {q} e =
    let a = then-done (read_record slots (b ∷ s)) (λ after. read_from most after.slots (drop after.len (b ∷ s))) e in
    let one = taken slots (b ∷ s) a.1 in
    let len : a.0.len ≡ one.len = ap (λ (x : Next). x.len) one.is in
    goes_on a.0 one (subst (λ (n : ℕ). read_from most a.0.slots (drop n (b ∷ s)) ≡ done q) len a.2)

-- of every record
module _ (P : List ℕ → Type 0) where
  unfoldable pub Each : List (List ℕ) → Type 0
  Each [] = Unit
  Each (r ∷ rs) = P r × Each rs

abbrev pub fine-one : {slots : Slots} {s : List ℕ} {next : Next} → AllBelow 256 s → (one : Taken slots s next) → Fine (take one.len s)
fine-one {slots} {s} below one =
    record {
      below = below-take 256 one.len s below;
      whole = whole-taken s one.len one.found;
      payload = one.payload;
      fits = one.fits;
    }

-- the records are of the form, and together all bytes
pub record Split (most : ℕ) (s : List ℕ) : Type 0 where
  pub joined : in_order (records_from most s) ≡ s
  pub fine : Each Fine (records_from most s)

no-records : (most : ℕ) (s : List ℕ) → s ≡ [] → records_from most s ≡ []
no-records most s e = ap (records_from most) e ∙ no_more most [] empty-none

split-none : (most : ℕ) (s : List ℕ) → s ≡ [] → Split most s
unfolding in_order Each
split-none most s e =
    record { joined = ap in_order (no-records most s e) ∙ sym e; fine = subst (Each Fine) (sym (no-records most s e)) tt }

split_one : (most : ℕ) {slots : Slots} {s : List ℕ} {after : Next} → AllBelow 256 s → (one : Taken slots s after) → Split most (drop one.len s)
    → Split (suc most) s
unfolding in_order Each
split_one most {slots} {s} below one others =
    let first = next most s one.found in
    record {
      joined = ap in_order first ∙ ap (λ (t : List ℕ). take one.len s ++ t) others.joined ∙ take-append-drop one.len s;
      fine = subst (Each Fine) (sym first) (fine-one below one, others.fine);
    }

pub split : (most : ℕ) (slots : Slots) (s : List ℕ) {q : Policy} → AllBelow 256 s → read_from most slots s ≡ done q → Split most s
split zero slots s below e = split-none 0 s (no_room slots s e).0
split (suc most) slots s {q} below e = by-reading (reading most slots s e) (λ slots' s' below' e'. split most slots' s' below' e')
  where
    by-reading : Reading q most slots s → ((slots' : Slots) (s' : List ℕ) → AllBelow 256 s' → read_from most slots' s' ≡ done q → Split most s')
        → Split (suc most) s
    by-reading (ends n f) again = split-none (suc most) s n
    by-reading (goes_on after one more) again =
        split_one most below one (again after.slots (drop one.len s) (below-drop 256 one.len s below) more)

-- ---- the policy moved

pub or-none : (a b : Bool) → a || b ≡ false → (a ≡ false) × (b ≡ false)
or-none true b e = absurd (let z : ◌≡◌ {A = ℕ} 0 1 = cc in omega arith)
or-none false b e = (refl, e)

module _ (form : Form) where
  -- it is read as the policy was, and its records are those, moved
  pub record Moving (q : Policy) (most : ℕ) (slots : Slots) (s : List ℕ) : Type 0 where
    pub reads : read_from most slots (rest form most s) ≡ done q
    pub each : records_from most (rest form most s) ≡ map (moved form) (records_from most s)

  first_rest : (most : ℕ) (s : List ℕ) {len : ℕ} → record_length s ≡ Some len → rest form (suc most) s ≡ moved form (take len s) ++ rest form most (drop len s)
  unfolding rest in_order
  first_rest most s e = rw (next most s e)

  pub first-large : (most : ℕ) (s : List ℕ) {len : ℕ} → record_length s ≡ Some len
      → large form (suc most) s ≡ too_large form (take len s) || large form most (drop len s)
  unfolding large any
  first-large most s e = rw (next most s e)

  no-rest : (most : ℕ) (s : List ℕ) → s ≡ [] → rest form most s ≡ []
  unfolding rest in_order
  no-rest most s e = rw (no-records most s e)

  pub no-large : (most : ℕ) (s : List ℕ) → s ≡ [] → large form most s ≡ false
  unfolding large any
  no-large most s e = rw (no-records most s e)

  ends_read : (most : ℕ) (slots : Slots) → read_from most slots [] ≡ finish slots
  unfolding read_from
  ends_read zero slots = refl
  ends_read (suc most) slots = refl

  moving-none : (q : Policy) (most : ℕ) (slots : Slots) (s : List ℕ) → s ≡ [] → finish slots ≡ done q → Moving q most slots s
  moving-none q most slots s n f =
      let nothing = no-rest most s n in
      record {
        reads = ap (read_from most slots) nothing ∙ ends_read most slots ∙ f;
        each = no-records most (rest form most s) nothing ∙ ap (map (moved form)) (sym (no-records most s n));
      }

  moving-one : (q : Policy) (most : ℕ) (slots : Slots) (s : List ℕ) (after : Next) → AllBelow 256 s → (one : Taken slots s after)
      → too_large form (take one.len s) ≡ false → Moving q most after.slots (drop one.len s) → Moving q (suc most) slots s
  moving-one q most slots s after below one small others =
      let r : List ℕ = take one.len s in
      let fine : Fine r = fine-one below one in
      let r' : List ℕ = moved form r in
      let t : List ℕ = rest form most (drop one.len s) in
      let whole : Whole r' = moved-whole form r fine in
      let all : rest form (suc most) s ≡ r' ++ t = first_rest most s one.found in
      let some_bytes : 1 ≤ length (r' ++ t) = omega (arith, length-append r' t, whole.long) in
      let payload : policy_payload r' ≡ Some one.payload = moved-payload form r fine small ∙ one.fits in
      let kind : kind_of r' ≡ kind_of r = moved-kind form r fine in
      let weighs : weighs_nothing (kind_of r') one.payload ≡ false = ap (λ (k : ℕ). weighs_nothing k one.payload) kind ∙ one.weighs in
      let read = read-there slots r' t whole payload one.kept weighs in
      let same : one.left ++ (Some (written (kind_of r') one.payload slots) ∷ []) ≡ after.slots =
      ap (λ (k : ℕ). one.left ++ (Some (written k one.payload slots) ∷ [])) kind ∙ ap (λ (x : Next). x.slots) (sym one.is) in
      let found : record_length (r' ++ t) ≡ Some (length r') = whole-front r' t whole in
      record {
        reads =
            ap (read_from (suc most) slots) all ∙ begins most slots (r' ++ t) some_bytes
            ∙ ap (λ (x : Answer Next). x >>= λ after. read_from most after.slots (drop after.len (r' ++ t))) read
            ∙ ap (λ (x : Slots). read_from most x (drop (length r') (r' ++ t))) same
            ∙ ap (read_from most after.slots) (drop-append_seam r' t)
            ∙ others.reads;
        each =
            ap (records_from (suc most)) all ∙ next most (r' ++ t) found
            ∙ ap (λ (x : List ℕ). x ∷ records_from most (drop (length r') (r' ++ t))) (take-append_seam r' t)
            ∙ ap (λ (x : List ℕ). r' ∷ records_from most x) (drop-append_seam r' t)
            ∙ ap (λ (x : List (List ℕ)). r' ∷ x) others.each
            ∙ ap (map (moved form)) (sym (next most s one.found));
      }

  pub moving : (most : ℕ) (slots : Slots) (s : List ℕ) {q : Policy} → AllBelow 256 s → read_from most slots s ≡ done q → large form most s ≡ false
      → Moving q most slots s
  moving zero slots s {q} below e small = moving-none q 0 slots s (no_room slots s e).0 (no_room slots s e).1
  moving (suc most) slots s {q} below e small =
      by-reading (reading most slots s e) (λ slots' s' below' e' small'. moving most slots' s' below' e' small')
    where
      by-reading : Reading q most slots s
          → ((slots' : Slots) (s' : List ℕ) → AllBelow 256 s' → read_from most slots' s' ≡ done q → large form most s' ≡ false → Moving q most slots' s')
          → Moving q (suc most) slots s
      by-reading (ends n f) again = moving-none q (suc most) slots s n f
      by-reading (goes_on after one more) again =
          let both = or-none (too_large form (take one.len s)) (large form most (drop one.len s)) (sym (first-large most s one.found) ∙ small) in
          moving-one q most slots s after below one both.0
          (again after.slots (drop one.len s) (below-drop 256 one.len s below) more both.1)
