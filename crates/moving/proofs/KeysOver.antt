-- The keys of a policy that is read are those of its records, so that 18 is given exactly if one of them is too large: specs/Laws.antt.
-- Assumes nothing.
use mathlib.Core.Path.{◌≡◌, refl, sym, ap, ◌∙◌}
use mathlib.Core.Bool.{Bool, true, false, cond, ◌||◌, ◌&&◌}
use mathlib.Core.List.{List, [], ◌∷◌, ◌++◌}
use Rattle.std.specs.Prelude.{Option, None, Some}
use Prim.Native.Nat.{ℕ, zero, suc, ◌≤◌}
use native.Mathlib.Omega.{arith}
use borrow.Author.Tests.{leb-true, eqb-true, eqb-false, le-ltb}
use lib.Dec.{eqb, leb, ltb}
use lib.ListN.{length, set, take, drop, length-map}
use Rattle.records.specs.Shapes.{is_long, meant, look_up, shape_of, is_policy_kind}
use Rattle.records.specs.Payloads as payload
use Rattle.records.specs.Payloads.{Payload, number, written_kind, number_in, payload_of, children_of, number_of}
use Rattle.records.specs.RecordForm.{kind_of, policy_payload}
use Rattle.records.specs.declared.Shape.{Shape}
use Rattle.records.proofs.Laws.{policy-record, is-nothing, is_number, is-lock, is-two-children, is-weighted}
use Rattle.records.proofs.Widths.{Long, key, one_key, more-keys, long-is, meant_itself, meant-one, meant-more}
use Rattle.writing.specs.WellFormed.{AllBelow}
use Rattle.writing.proofs.Kept.{no-some, below-drop}
use Rattle.policies.specs.Policy.{Policy, from_list, depth}
use Rattle.policies.specs.Forms.{made, nth}
use Rattle.policies.specs.Reading.{refused, done, ◌>>=◌, or_refuse, refuse_if, Slots, Next, slot, if_there, without, the_policy, those, written}
use Rattle.policies.specs.Reading.{bad_policy, policy_too_large, max_depth, max_records, root_of, finish, read_from, read_policy}
use Rattle.policies.proofs.Ranges.{each}
use Rattle.moving.specs.declared.Form.TheVariants.{Old, New}
use Rattle.moving.specs.Moving.{moves, too_large, records_of, any, moved_policy, key_too_large}
use Rattle.moving.specs.Laws.{key_over, any_over, fitting, ToOld}
use Rattle.moving.proofs.Keys.{large-key, large-other}
use Rattle.moving.proofs.Records.{large, or-false, or_assoc}
use Rattle.moving.proofs.OneKey.{Fine, kind-three, payload-is, key_below}
use Rattle.moving.proofs.ReadMoved.{not_done, then-done, Taken, fine-one, no_room, Reading, ends, goes_on, reading, first-large, no-large}
use Rattle.moving.proofs.RoundTrips.{when-read}

-- ---- bools

shuffle : (o t a l : Bool) → (o || (t || a)) || l ≡ (a || o) || (t || l)
shuffle true t true l = refl
shuffle true t false l = refl
shuffle false true true l = refl
shuffle false true false l = refl
shuffle false false true l = refl
shuffle false false false l = refl

-- ---- some policies

unfoldable any_in : List Policy → Bool
any_in [] = false
any_in (p ∷ ps) = key_over p || any_in ps

two-over : (cs : List Policy) → length cs ≡ 2 → key_over (nth cs 0) || key_over (nth cs 1) ≡ any_in cs
unfolding any_in
two-over [] e = absurd (omega arith)
two-over (x ∷ []) e = absurd (omega arith)
two-over (x ∷ y ∷ []) e = ap (λ (b : Bool). key_over x || b) (sym (or-false (key_over y)))
two-over (x ∷ y ∷ z ∷ cs) e = absurd (omega arith)

none_over : (cs : List Policy) → length cs ≡ 0 → false ≡ any_in cs
unfolding any_in
none_over [] e = refl
none_over (x ∷ cs) e = absurd (omega arith)

many-over : (cs : List Policy) → any_over (from_list cs) ≡ any_in cs
unfolding any_in key_over from_list
many-over [] = refl
many-over (x ∷ cs) = ap (λ (b : Bool). key_over x || b) (many-over cs)

-- ---- the policy that a record writes

abbrev over : ℕ → Bool
over n = ltb 4294967295 n

module _ (s : List ℕ) {p : Payload} (e : policy_payload s ≡ Some p) (k left right : ℕ) (cs : List Policy) (many : length cs ≡ length (children_of p)) where
  -- a record is of its kind's shape
  shaped : (kind : ℕ) {shape : Shape} → shape_of kind ≡ Some shape → kind_of s ≡ kind → payload_of shape s ≡ Some p
  shaped kind known is = rw (is, known) at (policy-record s e).1

  empty : (kind : ℕ) → shape_of kind ≡ Some Shape.Nothing → kind_of s ≡ kind → false ≡ any_in cs
  empty kind known is = none_over cs (many ∙ ap (λ (x : Payload). length (children_of x)) (is-nothing s (shaped kind known is)))

  numbered : (kind : ℕ) → shape_of kind ≡ Some Shape.Number → kind_of s ≡ kind → false ≡ any_in cs
  numbered kind known is = none_over cs (many ∙ ap (λ (x : Payload). length (children_of x)) (is_number s (shaped kind known is)))

  locked : (kind : ℕ) → shape_of kind ≡ Some Shape.Lock → kind_of s ≡ kind → false ≡ any_in cs
  locked kind known is = none_over cs (many ∙ ap (λ (x : Payload). length (children_of x)) (is-lock s (shaped kind known is)))

  paired : (kind : ℕ) → shape_of kind ≡ Some Shape.TwoChildren → kind_of s ≡ kind → key_over (nth cs 0) || key_over (nth cs 1) ≡ any_in cs
  paired kind known is = two-over cs (many ∙ ap (λ (x : Payload). length (children_of x)) (is-two-children s (shaped kind known is)))

  weighed : (kind : ℕ) → shape_of kind ≡ Some Shape.Weighted → kind_of s ≡ kind → key_over (nth cs 0) || key_over (nth cs 1) ≡ any_in cs
  weighed kind known is = two-over cs (many ∙ ap (λ (x : Payload). length (children_of x)) (is-weighted s (shaped kind known is)))

  -- its own key and those of its children
  abbrev Over : ℕ → Type 0
  Over kind = kind_of s ≡ kind → key_over (made kind (number_of p) k left right cs) ≡ (eqb kind 3 && over (number_of p)) || any_in cs

  by_kind : (kind : ℕ) → 1 ≤ kind → kind ≤ 12 → Over kind
  unfolding made key_over shape_of look_up
  by_kind kind low high =
      each
      (λ (x : ℕ). Over x)
      1
      12 (
        λ is. empty 1 refl is,
        (
          λ is. empty 2 refl is,
          (
            λ is. sym (or-false (over (number_of p))) ∙ ap (λ (b : Bool). over (number_of p) || b) (numbered 3 refl is),
            (
              λ is. locked 4 refl is,
              (
                λ is. locked 5 refl is,
                (
                  λ is. numbered 6 refl is,
                  (
                    λ is. numbered 7 refl is,
                    (
                      λ is. numbered 8 refl is,
                      (λ is. numbered 9 refl is, (λ is. paired 10 refl is, (λ is. weighed 11 refl is, (λ is. many-over cs, tt)))),
                    ),
                  ),
                ),
              ),
            ),
          ),
        ),
      )
      kind
      low
      (omega arith)

  over-made : key_over (made (kind_of s) (number_of p) k left right cs) ≡ (eqb (kind_of s) 3 && over (number_of p)) || any_in cs
  over-made =
      let kinds = (policy-record s e).0 in
      let bounds = bounded (kind_of s) kinds in
      by_kind (kind_of s) bounds.0 bounds.1 refl
    where
      bounded : (kind : ℕ) → is_policy_kind kind ≡ true → (1 ≤ kind) × (kind ≤ 12)
      bounded kind e = by_tests (leb 1 kind) (leb kind 12) refl refl e
        where
          by_tests : (a b : Bool) → leb 1 kind ≡ a → leb kind 12 ≡ b → a && b ≡ true → (1 ≤ kind) × (kind ≤ 12)
          by_tests true true l h e = (leb-true 1 kind l, leb-true kind 12 h)
          by_tests true false l h e = absurd (let z : ◌≡◌ {A = ℕ} 0 1 = cc in omega arith)
          by_tests false b l h e = absurd (let z : ◌≡◌ {A = ℕ} 0 1 = cc in omega arith)

-- its own key is too large exactly if it is to be moved and does not fit

short-key : (kind : ℕ) → meant kind ≡ 3 → (kind ≡ 19 → ⊥) → kind ≡ 3
short-key kind m ne = by-test (is_long kind) refl
  where
    by-long : Long kind → kind ≡ 3
    by-long (key e) = absurd (ne e)
    by-long (one_key l h) = absurd (omega (arith, m, meant-one kind l h))
    by-long (more-keys l h) = absurd (omega (arith, m, meant-more kind l h))

    by-test : (t : Bool) → is_long kind ≡ t → kind ≡ 3
    by-test true e = by-long (long-is kind e)
    by-test false e = sym (meant_itself kind e) ∙ m

own_key : (r : List ℕ) (fine : Fine r) → (eqb (kind_of r) 3 && over (number_of fine.payload)) ≡ too_large Old r
unfolding kind_of
own_key r fine = by-new (moves Old r) refl
  where
    some_is : {x y : Payload} → Some x ≡ Some y → x ≡ y
    some_is e = cc

    is-old : (t : Bool) → eqb (kind_of r) 3 ≡ t → moves Old r ≡ false → (t && over (number_of fine.payload)) ≡ false
    is-old true k m =
        let kind : written_kind r ≡ 3 = short-key (written_kind r) (eqb-true (kind_of r) 3 k) (eqb-false (written_kind r) 19 m) in
        let number_is : fine.payload ≡ number (number_in r) = some_is (sym fine.fits ∙ payload-is Old r kind fine) in
        ap (λ (x : Payload). over (number_of x)) number_is ∙ le-ltb 4294967295 (number_in r) (omega (arith, key_below Old r kind fine))
    is-old false k m = refl

    by-new : (t : Bool) → moves Old r ≡ t → (eqb (kind_of r) 3 && over (number_of fine.payload)) ≡ too_large Old r
    by-new true m =
        let kind : written_kind r ≡ 19 = eqb-true (written_kind r) 19 m in
        let number_is : fine.payload ≡ number (number_in r) = some_is (sym fine.fits ∙ payload-is New r kind fine) in
        let three : kind_of r ≡ 3 = kind-three New r kind in
        ap (λ (x : ℕ). eqb x 3 && over (number_of fine.payload)) three
        ∙ ap (λ (x : Payload). over (number_of x)) number_is
        ∙ sym (large-key Old r m)
    by-new false m = is-old (eqb (kind_of r) 3) refl m ∙ sym (large-other Old r m)

-- ---- slots

unfoldable over_slot : Option Policy → Bool
over_slot (Some p) = key_over p
over_slot None = false

unfoldable over_slots : Slots → Bool
over_slots [] = false
over_slots (x ∷ xs) = over_slot x || over_slots xs

or_swap : (a b c : Bool) → a || (b || c) ≡ b || (a || c)
or_swap true true c = refl
or_swap true false c = refl
or_swap false true c = refl
or_swap false false c = refl

over-added : (xs : Slots) (p : Policy) → over_slots (xs ++ (Some p ∷ [])) ≡ over_slots xs || key_over p
unfolding over_slots over_slot
over-added [] p = or-false (key_over p)
over-added (x ∷ xs) p = ap (λ (b : Bool). over_slot x || b) (over-added xs p) ∙ sym (or_assoc (over_slot x) (over_slots xs) (key_over p))

over-set : (slots : Slots) (j : ℕ) {x : Policy} → slot slots j ≡ Some x → over_slots slots ≡ key_over x || over_slots (set slots j None)
unfolding over_slots over_slot
over-set [] j e = absurd (no-some e)
over-set (y ∷ slots) zero {x} e = ap (λ (o : Option Policy). over_slot o || over_slots slots) e
over-set (y ∷ slots) (suc j) {x} e =
    ap (λ (b : Bool). over_slot y || b) (over-set slots j e) ∙ or_swap (over_slot y) (key_over x) (over_slots (set slots j None))

-- a slot that is there once another is taken was there before
kept : (slots : Slots) (i j : ℕ) {x : Policy} → slot (set slots i None) j ≡ Some x → slot slots j ≡ Some x
kept [] i j e = e
kept (y ∷ slots) zero zero e = absurd (no-some e)
kept (y ∷ slots) zero (suc j) e = e
kept (y ∷ slots) (suc i) zero e = e
kept (y ∷ slots) (suc i) (suc j) e = kept slots i j e

data Present (slots : Slots) : List ℕ → Type 0 where
  all_there : Present slots []
  one-there : {j : ℕ} {js : List ℕ} (x : Policy) → slot slots j ≡ Some x → Present slots js → Present slots (j ∷ js)

present-before : (slots : Slots) (i : ℕ) (js : List ℕ) → Present (set slots i None) js → Present slots js
present-before slots i [] h = all_there
present-before slots i (j ∷ js) (one-there x e h) = one-there x (kept slots i j e) (present-before slots i js h)

-- what a step of taking tells
record Took (js : List ℕ) (slots : Slots) (j : ℕ) (left : Slots) : Type 0 where
  pub first : Policy
  pub there : slot slots j ≡ Some first
  pub others : without js (set slots j None) ≡ Some left

took : (j : ℕ) (js : List ℕ) (slots : Slots) {left : Slots} → without (j ∷ js) slots ≡ Some left → Took js slots j left
unfolding without
took j js slots {left} e = by-slot (slot slots j) refl e
  where
    by-slot : (o : Option Policy) → slot slots j ≡ o → if_there o (without js (set slots j None)) ≡ Some left → Took js slots j left
    by-slot (Some x) s e = record { first = x; there = s; others = e }
    by-slot None s e = absurd (no-some e)

present : (js : List ℕ) (slots : Slots) {left : Slots} → without js slots ≡ Some left → Present slots js
present [] slots e = all_there
present (j ∷ js) slots e =
    let t = took j js slots e in
    one-there t.first t.there (present-before slots j js (present js (set slots j None) t.others))

same-those : (slots : Slots) (i : ℕ) (js : List ℕ) → Present (set slots i None) js → any_in (those js (set slots i None)) ≡ any_in (those js slots)
unfolding any_in
same-those slots i [] h = refl
same-those slots i (j ∷ js) (one-there x e h) =
    let now : the_policy (slot (set slots i None) j) ≡ x = ap the_policy e in
    let before : the_policy (slot slots j) ≡ x = ap the_policy (kept slots i j e) in
    rw (now, before, same-those slots i js h)

taken-over : (js : List ℕ) (slots : Slots) {left : Slots} → without js slots ≡ Some left → over_slots slots ≡ any_in (those js slots) || over_slots left
unfolding any_in without
taken-over [] slots e = ap over_slots (some_is e)
  where
    some_is : {x y : Slots} → Some x ≡ Some y → x ≡ y
    some_is e = cc
taken-over (j ∷ js) slots {left} e =
    let t = took j js slots e in
    let again = taken-over js (set slots j None) t.others in
    let first : the_policy (slot slots j) ≡ t.first = ap the_policy t.there in
    over-set slots j t.there
    ∙ ap (λ (b : Bool). key_over t.first || b) again
    ∙ ap (λ (b : Bool). key_over t.first || (b || over_slots left)) (same-those slots j js (present js (set slots j None) t.others))
    ∙ sym (or_assoc (key_over t.first) (any_in (those js slots)) (over_slots left))
    ∙ ap (λ (x : Policy). (key_over x || any_in (those js slots)) || over_slots left) (sym first)

root_over : (slots : Slots) {q : Policy} → root_of slots ≡ Some q → over_slots slots ≡ key_over q
unfolding root_of over_slots over_slot
root_over [] e = absurd (no-some e)
root_over (x ∷ []) {q} e = or-false (over_slot x) ∙ ap over_slot e
root_over (None ∷ x ∷ slots) e = root_over (x ∷ slots) e
root_over (Some y ∷ x ∷ slots) e = absurd (no-some e)

-- ---- all records

finished : (slots : Slots) {q : Policy} → finish slots ≡ done q → root_of slots ≡ Some q
unfolding finish
finished slots {q} e =
    let a = then-done (or_refuse bad_policy (root_of slots)) (λ root. cond (leb (depth root) max_depth) (done root) (refused policy_too_large)) e in
    given (root_of slots) a.1 ∙ ap Some (within (leb (depth a.0) max_depth) a.2)
  where
    given : (o : Option Policy) {r : Policy} → or_refuse bad_policy o ≡ done r → o ≡ Some r
    given (Some x) e = cc
    given None e = absurd (not_done e)

    within : (b : Bool) {r : Policy} → cond b (done r) (refused policy_too_large) ≡ done q → r ≡ q
    within true e = cc
    within false e = absurd (not_done e)

ends-over : (most : ℕ) (slots : Slots) (s : List ℕ) {q : Policy} → s ≡ [] → finish slots ≡ done q → over_slots slots || large Old most s ≡ key_over q
ends-over most slots s n f =
    ap (λ (b : Bool). over_slots slots || b) (no-large Old most s n) ∙ or-false (over_slots slots) ∙ root_over slots (finished slots f)

one-over : (q : Policy) (most : ℕ) {slots : Slots} {s : List ℕ} {after : Next} → AllBelow 256 s → (one : Taken slots s after)
    → over_slots after.slots || large Old most (drop one.len s) ≡ key_over q → over_slots slots || large Old (suc most) s ≡ key_over q
one-over q most {slots} {s} {after} below one others =
    let r : List ℕ = take one.len s in
    let fine : Fine r = fine-one below one in
    let p : Payload = one.payload in
    let cs : List Policy = those (children_of p) slots in
    let many : length cs ≡ length (children_of p) = length-map (children_of p) (λ j. the_policy (slot slots j)) in
    let mine : key_over (written (kind_of r) p slots) ≡ too_large Old r || any_in cs =
    over-made r one.fits (payload.k_of p) (payload.left_weight_of p) (payload.right_weight_of p) cs many
    ∙ ap (λ (b : Bool). b || any_in cs) (own_key r fine) in
    let added : over_slots after.slots ≡ over_slots one.left || (too_large Old r || any_in cs) =
    ap (λ (x : Next). over_slots x.slots) one.is
    ∙ over-added one.left (written (kind_of r) p slots)
    ∙ ap (λ (b : Bool). over_slots one.left || b) mine in
    let rest-large : Bool = large Old most (drop one.len s) in
    ap (λ (b : Bool). b || large Old (suc most) s) (taken-over (children_of p) slots one.kept)
    ∙ ap (λ (b : Bool). (any_in cs || over_slots one.left) || b) (first-large Old most s one.found)
    ∙ sym (shuffle (over_slots one.left) (too_large Old r) (any_in cs) rest-large)
    ∙ ap (λ (b : Bool). b || rest-large) (sym added)
    ∙ others

over-read : (most : ℕ) (slots : Slots) (s : List ℕ) {q : Policy} → AllBelow 256 s → read_from most slots s ≡ done q
    → over_slots slots || large Old most s ≡ key_over q
over-read zero slots s below e = ends-over 0 slots s (no_room slots s e).0 (no_room slots s e).1
over-read (suc most) slots s {q} below e = by-reading (reading most slots s e) (λ slots' s' below' e'. over-read most slots' s' below' e')
  where
    by-reading : Reading q most slots s
        → ((slots' : Slots) (s' : List ℕ) → AllBelow 256 s' → read_from most slots' s' ≡ done q → over_slots slots' || large Old most s' ≡ key_over q)
        → over_slots slots || large Old (suc most) s ≡ key_over q
    by-reading (ends n f) again = ends-over (suc most) slots s n f
    by-reading (goes_on after one more) again =
        one-over q most below one (again after.slots (drop one.len s) (below-drop 256 one.len s below) more)

pub too-large-exactly : (policy : List ℕ) → AllBelow 256 policy → {q : Policy} → read_policy policy ≡ done q → any (too_large Old) (records_of policy) ≡ key_over q
unfolding read_policy records_of large over_slots
too-large-exactly policy below e = over-read max_records [] policy below e

pub to-old : ToOld
to-old policy below room q e =
    when-read Old policy room e ∙ ap (λ (b : Bool). refuse_if key_too_large b (moved_policy Old policy) >>= λ to. fitting room to) (too-large-exactly policy below e)
    ∙ by-test (key_over q)
  where
    by-test : (b : Bool) → (refuse_if key_too_large b (moved_policy Old policy) >>= λ to. fitting room to)
        ≡ cond b (refused key_too_large) (fitting room (moved_policy Old policy))
    by-test true = refl
    by-test false = refl
