-- One record of a policy that is read: what it is, what it is once moved, and once moved back. Assumes nothing.
use mathlib.Core.Path.{◌≡◌, refl, sym, ap, subst, ◌∙◌}
use mathlib.Core.Bool.{Bool, true, false, cond}
use mathlib.Core.List.{List, [], ◌∷◌, ◌++◌, append-nil}
use Rattle.std.specs.Prelude.{Option, Some}
use Prim.Native.Nat.{ℕ, ◌+◌, ◌*◌, ◌/◌, ◌%◌, ◌^◌, ◌<◌, ◌≤◌}
use native.Mathlib.Omega.{arith}
use borrow.Author.Tests.{le-leb, eqb-true, eq-eqb, ltb-false, le-ltb}
use lib.Dec.{ltb, eqb}
use lib.ListN.{length, take, drop, length-append, length-drop, take-append-drop}
use lib.Seq.{length-take-le, take-append-le, take_all, drop-drop}
use Rattle.words.specs.Bytes.{little, bytes_of, le_at}
use Rattle.words.proofs.Bytes as bytes
use Rattle.words.proofs.Bytes.{length-bytes}
use Rattle.records.specs.Numbers.{or_zero, number_at, u16, between}
use Rattle.records.specs.Shapes.{is_long, meant, look_up, shape_of, is_policy_kind}
use Rattle.records.specs.Payloads.{Payload, number, written_kind, width, number_in, when, payload_of}
use Rattle.records.specs.RecordForm.{when_whole, record_length, kind_of, policy_payload}
use Rattle.records.specs.declared.Shape.TheVariants as Shape
use Rattle.records.proofs.Laws.{length-bounds, of-policy, is_number}
use Rattle.writing.specs.WellFormed.{AllBelow}
use Rattle.writing.proofs.Rows.{number-at}
use Rattle.writing.proofs.OneRecord.{Wide, length-record, record-whole, number-back}
use Rattle.writing.proofs.Kept.{below-take, below-drop}
use Rattle.writing.proofs.WellRead.{number-below}
use Rattle.moving.specs.declared.Form.{Form}
use Rattle.moving.specs.declared.Form.TheVariants.{Old, New}
use Rattle.moving.specs.Moving.{key_kind, key_width, key_record, other, moves, moved, too_large}
use Rattle.moving.proofs.Keys.{moved-key, moved_other, large-key, large-other}

-- ---- the bytes of a number that is read are those that stand there

bytes-little : (bs : List ℕ) → AllBelow 256 bs → bytes_of (length bs) (little bs) ≡ bs
unfolding bytes_of little AllBelow
bytes-little [] h = refl
bytes-little (b ∷ bs) h =
    let r : (b + little bs * 256) % 256 ≡ b = omega (arith, h.0) in
    let q : (b + little bs * 256) / 256 ≡ little bs = omega (arith, h.0) in
    rw (r, q, bytes-little bs h.1)

bytes-there : (w : ℕ) (s : List ℕ) (at : ℕ) → AllBelow 256 s → at + w ≤ length s → bytes_of w (number_at w s at) ≡ take w (drop at s)
bytes-there w s at h room =
    let long : length (take w (drop at s)) ≡ w = length-take-le w (drop at s) (omega (arith, length-drop at s)) in
    ap (λ (o : Option ℕ). bytes_of w (or_zero o)) (bytes.found w s at (le-leb (at + w) (length s) room))
    ∙ ap (λ (n : ℕ). bytes_of n (little (take w (drop at s)))) (sym long)
    ∙ bytes-little (take w (drop at s)) (below-take 256 w (drop at s) (below-drop 256 at s h))

-- ---- whole records

pub record Whole (r : List ℕ) : Type 0 where
  pub says : u16 r 0 ≡ length r
  pub long : 4 ≤ length r

front-number : (r t : List ℕ) → 2 ≤ length r → u16 (r ++ t) 0 ≡ u16 r 0
unfolding le_at
front-number r t h =
    rw (le-leb 2 (length (r ++ t)) (omega (arith, length-append r t)), le-leb 2 (length r) h, take-append-le 2 r t h)

-- a record is found before whatever follows it
pub whole-front : (r t : List ℕ) → Whole r → record_length (r ++ t) ≡ Some (length r)
whole-front r t w =
    let says : u16 (r ++ t) 0 ≡ length r = front-number r t (omega (arith, w.long)) ∙ w.says in
    rw (says, le-leb 4 (length r) w.long, le-leb (length r) (length (r ++ t)) (omega (arith, length-append r t)))

length-is : (s : List ℕ) {n : ℕ} → record_length s ≡ Some n → u16 s 0 ≡ n
length-is s {n} e = by-test (between 4 (length s) (u16 s 0)) e
  where
    by-test : (t : Bool) → when_whole t (u16 s 0) ≡ Some n → u16 s 0 ≡ n
    by-test true e = cc
    by-test false e = cc

pub whole-taken : (s : List ℕ) (len : ℕ) → record_length s ≡ Some len → Whole (take len s)
whole-taken s len e =
    let b = length-bounds s e in
    let long : length (take len s) ≡ len = length-take-le len s b.1 in
    let front : u16 (take len s ++ drop len s) 0 ≡ u16 (take len s) 0 = front-number (take len s) (drop len s) (omega (arith, b.0)) in
    let joined : take len s ++ drop len s ≡ s = take-append-drop len s in
    record {
      says = sym front ∙ ap (λ (x : List ℕ). u16 x 0) joined ∙ length-is s e ∙ sym long;
      long = omega (arith, b.0);
    }

-- ---- a record of a policy that is read

pub record Fine (r : List ℕ) : Type 0 where
  pub below : AllBelow 256 r
  pub whole : Whole r
  pub payload : Payload
  pub fits : policy_payload r ≡ Some payload

-- what a key's kind is

meant-key : (form : Form) → meant (key_kind form) ≡ 3
meant-key Old = refl
meant-key New = refl

key-wide : (form : Form) → Wide (key_kind form) (key_width form)
key-wide Old = record { is-u16 = omega arith; is = refl }
key-wide New = record { is-u16 = omega arith; is = refl }

key-shape : shape_of 3 ≡ Some Shape.Number
unfolding shape_of look_up
key-shape = refl

-- of a record of kind 3 or 19
number-payload : (r : List ℕ) → kind_of r ≡ 3 → policy_payload r ≡ payload_of Shape.Number r
number-payload r k =
    let of-kind : is_policy_kind (kind_of r) ≡ true = rw k in
    of-policy r of-kind (ap shape_of k ∙ key-shape)

number-long : (r : List ℕ) {p : Payload} → payload_of Shape.Number r ≡ Some p → length r ≡ 4 + width r
unfolding payload_of
number-long r {p} e = by-test (eqb (length r) (4 + width r)) refl e
  where
    by-test : (t : Bool) → eqb (length r) (4 + width r) ≡ t → when t (number (number_in r)) ≡ Some p → length r ≡ 4 + width r
    by-test true t e = eqb-true (length r) (4 + width r) t
    by-test false t e = cc

module _ (form : Form) (r : List ℕ) (kind : written_kind r ≡ key_kind form) where
  pub kind-three : kind_of r ≡ 3
  unfolding kind_of
  kind-three = ap meant kind ∙ meant-key form

  its-width : width r ≡ key_width form
  unfolding width
  its-width = ap (λ (n : ℕ). cond (is_long n) 8 4) kind ∙ (key-wide form).is

  module _ (fine : Fine r) where
    shaped : payload_of Shape.Number r ≡ Some fine.payload
    shaped = sym (number-payload r kind-three) ∙ fine.fits

    pub payload-is : policy_payload r ≡ Some (number (number_in r))
    payload-is = fine.fits ∙ ap Some (is_number r shaped)

    key-long : length r ≡ 4 + key_width form
    key-long = number-long r shaped ∙ ap (λ (n : ℕ). 4 + n) its-width

    pub key_below : number_in r < 256 ^ key_width form
    key_below = subst (λ (w : ℕ). number_at w r 4 < 256 ^ key_width form) (sym its-width) (number-below (key_width form) r 4 fine.below)

    -- a key's record is the one that its number writes
    pub key-is : r ≡ key_record form (number_in r)
    key-is =
        let w : ℕ = key_width form in
        let n : ℕ = number_in r in
        let payload : bytes_of w n ≡ drop 4 r =
        ap (λ (v : ℕ). bytes_of w (number_at v r 4)) its-width
        ∙ bytes-there w r 4 fine.below (omega (arith, key-long))
        ∙ take_all w (drop 4 r) (omega (arith, key-long, length-drop 4 r)) in
        let len : bytes_of 2 (4 + length (bytes_of w n)) ≡ take 2 r =
        ap (bytes_of 2) (omega (arith, length-bytes w n, key-long, fine.whole.says))
        ∙ bytes-there 2 r 0 fine.below (omega (arith, fine.whole.long)) in
        let kinded : bytes_of 2 (key_kind form) ≡ take 2 (drop 2 r) =
        ap (bytes_of 2) (sym kind) ∙ bytes-there 2 r 2 fine.below (omega (arith, fine.whole.long)) in
        sym (
        ap (λ (x : List ℕ). x ++ (bytes_of 2 (key_kind form) ++ bytes_of w n)) len
        ∙ ap (λ (x : List ℕ). take 2 r ++ (x ++ bytes_of w n)) kinded
        ∙ ap (λ (x : List ℕ). take 2 r ++ (take 2 (drop 2 r) ++ x)) (payload ∙ sym (drop-drop 2 2 r))
        ∙ ap (λ (x : List ℕ). take 2 r ++ x) (take-append-drop 2 (drop 2 r))
        ∙ take-append-drop 2 r
        )

-- ---- the record of a key

module _ (form : Form) (n : ℕ) where
  pub key-kind : written_kind (key_record form n) ≡ key_kind form
  key-kind =
      let payload : List ℕ = bytes_of (key_width form) n in
      rw (number-at 2 (key_kind form) (bytes_of 2 (4 + length payload)) payload 2 (length-bytes 2 (4 + length payload)) (key-wide form).is-u16)

  pub key-whole : Whole (key_record form n)
  key-whole =
      let payload : List ℕ = bytes_of (key_width form) n in
      let few : length payload < 65532 = small form in
      let found : record_length (key_record form n ++ []) ≡ Some (4 + length payload) = record-whole (key_kind form) payload [] few in
      let long : length (key_record form n) ≡ 4 + length payload = length-record (key_kind form) payload in
      record {
        says = length-is (key_record form n) (rw (append-nil (key_record form n)) at found) ∙ sym long;
        long = omega arith;
      }
    where
      small : (form : Form) → length (bytes_of (key_width form) n) < 65532
      small Old = omega (arith, length-bytes 4 n)
      small New = omega (arith, length-bytes 8 n)

  module _ (fits : n < 256 ^ key_width form) where
    back : payload_of Shape.Number (key_record form n) ≡ Some (number n)
    back = number-back (key_kind form) (key_width form) (key-wide form) n fits

    pub key-payload : policy_payload (key_record form n) ≡ Some (number n)
    key-payload = number-payload (key_record form n) (kind-three form (key_record form n) key-kind) ∙ back

    pub key-number : number_in (key_record form n) ≡ n
    key-number = numbers (sym (is_number (key_record form n) back))
      where
        numbers : {a b : ℕ} → number a ≡ number b → a ≡ b
        numbers e = cc

-- ---- a record that is moved

to-be-moved : (form : Form) (r : List ℕ) → moves form r ≡ true → written_kind r ≡ key_kind (other form)
to-be-moved form r e = eqb-true (written_kind r) (key_kind (other form)) e

-- a key that is not too large fits
key_fits : (form : Form) (r : List ℕ) → Fine r → moves form r ≡ true → too_large form r ≡ false → number_in r < 256 ^ key_width form
key_fits Old r fine m small =
    let fits : ltb 4294967295 (number_in r) ≡ false = sym (large-key Old r m) ∙ small in
    omega (arith, ltb-false 4294967295 (number_in r) fits)
key_fits New r fine m small = omega (arith, key_below Old r (to-be-moved New r m) fine)

module _ (form : Form) (r : List ℕ) (fine : Fine r) where
  pub moved-whole : Whole (moved form r)
  moved-whole = by-test (moves form r) refl
    where
      by-test : (t : Bool) → moves form r ≡ t → Whole (moved form r)
      by-test true e = subst Whole (sym (moved-key form r e)) (key-whole form (number_in r))
      by-test false e = subst Whole (sym (moved_other form r e)) fine.whole

  pub moved-kind : kind_of (moved form r) ≡ kind_of r
  moved-kind = by-test (moves form r) refl
    where
      by-test : (t : Bool) → moves form r ≡ t → kind_of (moved form r) ≡ kind_of r
      by-test true e =
          ap kind_of (moved-key form r e)
          ∙ kind-three form (key_record form (number_in r)) (key-kind form (number_in r))
          ∙ sym (kind-three (other form) r (to-be-moved form r e))
      by-test false e = ap kind_of (moved_other form r e)

  pub moved-payload : too_large form r ≡ false → policy_payload (moved form r) ≡ policy_payload r
  moved-payload small = by-test (moves form r) refl
    where
      by-test : (t : Bool) → moves form r ≡ t → policy_payload (moved form r) ≡ policy_payload r
      by-test true e =
          ap (λ (x : List ℕ). policy_payload x) (moved-key form r e)
          ∙ key-payload form (number_in r) (key_fits form r fine e small)
          ∙ sym (payload-is (other form) r (to-be-moved form r e) fine)
      by-test false e = ap (λ (x : List ℕ). policy_payload x) (moved_other form r e)

-- the kinds of the two forms are two
apart : (form : Form) → eqb (key_kind form) (key_kind (other form)) ≡ false
apart Old = refl
apart New = refl

is-of : (form : Form) (r : List ℕ) → written_kind r ≡ key_kind form → moves form r ≡ false
is-of form r k = ap (λ (n : ℕ). eqb n (key_kind (other form))) k ∙ apart form

-- no key of the other form is left
pub moved-moves : (form : Form) (r : List ℕ) → moves form (moved form r) ≡ false
moved-moves form r = by-test (moves form r) refl
  where
    by-test : (t : Bool) → moves form r ≡ t → moves form (moved form r) ≡ false
    by-test true e = ap (λ (x : List ℕ). moves form x) (moved-key form r e) ∙ is-of form (key_record form (number_in r)) (key-kind form (number_in r))
    by-test false e = ap (λ (x : List ℕ). moves form x) (moved_other form r e) ∙ e

-- ---- there and back

moves-key : (form : Form) (n : ℕ) → moves form (key_record (other form) n) ≡ true
moves-key form n =
    eq-eqb (written_kind (key_record (other form) n)) (key_kind (other form)) (key-kind (other form) n)

module _ (r : List ℕ) (fine : Fine r) where
  -- a record without kind 19
  module _ (old : moves Old r ≡ false) where
    pub record-back : moved Old (moved New r) ≡ r
    record-back = by-test (moves New r) refl
      where
        by-test : (t : Bool) → moves New r ≡ t → moved Old (moved New r) ≡ r
        by-test true e =
            let kind = to-be-moved New r e in
            let n : ℕ = number_in r in
            ap (moved Old) (moved-key New r e)
            ∙ moved-key Old (key_record New n) (moves-key Old n)
            ∙ ap (key_record Old) (key-number New n (omega (arith, key_below Old r kind fine)))
            ∙ sym (key-is Old r kind fine)
        by-test false e = ap (moved Old) (moved_other New r e) ∙ moved_other Old r old

    pub new-fits-old : too_large Old (moved New r) ≡ false
    new-fits-old = by-test (moves New r) refl
      where
        by-test : (t : Bool) → moves New r ≡ t → too_large Old (moved New r) ≡ false
        by-test true e =
            let kind = to-be-moved New r e in
            let n : ℕ = number_in r in
            let small = key_below Old r kind fine in
            ap (too_large Old) (moved-key New r e)
            ∙ large-key Old (key_record New n) (moves-key Old n)
            ∙ ap (λ (k : ℕ). ltb 4294967295 k) (key-number New n (omega (arith, small)))
            ∙ le-ltb 4294967295 n (omega (arith, small))
        by-test false e = ap (too_large Old) (moved_other New r e) ∙ large-other Old r old

  pub record-again : too_large Old r ≡ false → moved New (moved Old r) ≡ moved New r
  record-again small = by-test (moves Old r) refl
    where
      by-test : (t : Bool) → moves Old r ≡ t → moved New (moved Old r) ≡ moved New r
      by-test true e =
          let kind = to-be-moved Old r e in
          let n : ℕ = number_in r in
          ap (moved New) (moved-key Old r e)
          ∙ moved-key New (key_record Old n) (moves-key New n)
          ∙ ap (key_record New) (key-number Old n (key_fits Old r fine e small))
          ∙ sym (key-is New r kind fine)
          ∙ sym (moved_other New r (is-of New r kind))
      by-test false e = ap (moved New) (moved_other Old r e)

-- every key fits the new form
pub fits-new : (r : List ℕ) → too_large New r ≡ false
fits-new r = by-test (moves New r) refl
  where
    by-test : (t : Bool) → moves New r ≡ t → too_large New r ≡ false
    by-test true e = large-key New r e
    by-test false e = large-other New r e
