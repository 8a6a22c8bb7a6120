-- A record of the form is short, so that the first bytes of a list tell whether it begins with one; and the reading of a memory's records, one after
-- another. Assumes nothing.
use mathlib.Core.Bool.{Bool, true, false, cond, ◌&&◌}
use mathlib.Core.List.{List, [], ◌∷◌, ◌++◌}
use mathlib.Core.Logic.{◌⊎◌, inl, inr}
use Rattle.std.specs.Prelude.{Option, None, Some}
use mathlib.Core.Path.{◌≡◌, refl, sym, ap, subst, ◌∙◌}
use Prim.Native.Nat.{ℕ, zero, suc, ◌+◌, ◌*◌, ◌-◌, ◌<◌, ◌≤◌}
use native.Mathlib.Omega.{arith}
use borrow.Author.Tests.{eqb-true, leb-true, leb-false, le-leb}
use lib.Dec.{eqb, leb}
use lib.ListN.{length, get_or, take, drop, length-drop}
use lib.Seq.{length-take-le, drop-drop}
use Rattle.words.specs.Bytes.{little, has_bytes, le_at}
use Rattle.words.proofs.Bytes.{found}
use Rattle.records.specs.Numbers.{or_zero, u16, u16s, between, max_lock, max_count}
use Rattle.records.specs.Shapes.{is_long}
use Rattle.records.specs.Payloads.{Payload, nothing, number, children, weighted, threshold, keys, when, written_kind, width, number_in, k_in, count_in, keys_in}
use Rattle.records.specs.Payloads.{threshold_fits, payload_of}
use Rattle.records.specs.RecordForm.{when_whole, record_length, fragment_payload}
use Rattle.records.specs.declared.Shape.{Shape}
use Rattle.records.specs.declared.Shape.TheVariants as Shape
use Rattle.records.proofs.Forms.{and_left, and_right, few_bytes, fits-bounds}
use Rattle.records.proofs.Laws.{length-bounds, length-fits, fragment-record, record-shape}
use Rattle.trees.specs.Reading.{max_records}
use Rattle.chosen.specs.Chosen.{with_record, in_order, is_written}
use Rattle.chosen.proofs.Steps.{order-end, order-full, order-broken, order-stops, order-goes-on, with-unfit}

-- ---- how long a record of the form is

so : (t : Bool) (q : Payload) {p : Payload} → when t q ≡ Some p → t ≡ true
so true q e = refl
so false q e = cc

width_few : (s : List ℕ) → width s ≤ 8
unfolding width
width_few s = by_kind (is_long (written_kind s))
  where
    by_kind : (t : Bool) → cond t 8 4 ≤ 8
    by_kind true = omega arith
    by_kind false = omega arith

threshold-long : (w : ℕ) (s : List ℕ) → w ≤ 8 → threshold_fits w s ≡ true → length s ≤ 136
threshold-long w s few e =
    let bounds = fits-bounds w s e in
    let three = leb 1 (u16 s 4) && leb (u16 s 4) (u16 s 6) && leb (u16 s 6) max_count in
    let long = eqb-true (length s) (8 + w * u16 s 6) (and_right three (eqb (length s) (8 + w * u16 s 6)) e) in
    omega (arith, few_bytes w (u16 s 6) few bounds.2)

shape-long : (shape : Shape) (s : List ℕ) {p : Payload} → payload_of shape s ≡ Some p → length s ≤ 136
unfolding payload_of
shape-long Shape.Nothing s e =
    let l = eqb-true (length s) 4 (so (eqb (length s) 4) nothing e) in
    omega arith
shape-long Shape.Number s e =
    let l = eqb-true (length s) (4 + width s) (so (eqb (length s) (4 + width s)) (number (number_in s)) e) in
    omega (arith, width_few s)
shape-long Shape.Lock s e =
    let both = so (eqb (length s) 8 && between 1 max_lock (number_in s)) (number (number_in s)) e in
    let l = eqb-true (length s) 8 (and_left (eqb (length s) 8) (between 1 max_lock (number_in s)) both) in
    omega arith
shape-long Shape.OneChild s e =
    let l = eqb-true (length s) 6 (so (eqb (length s) 6) (children (u16s s 4 1)) e) in
    omega arith
shape-long Shape.TwoChildren s e =
    let l = eqb-true (length s) 8 (so (eqb (length s) 8) (children (u16s s 4 2)) e) in
    omega arith
shape-long Shape.ThreeChildren s e =
    let l = eqb-true (length s) 10 (so (eqb (length s) 10) (children (u16s s 4 3)) e) in
    omega arith
shape-long Shape.Weighted s e =
    let l = eqb-true (length s) 16 (so (eqb (length s) 16) _ e) in
    omega arith
shape-long Shape.Threshold s e =
    threshold-long 2 s (omega arith) (so (threshold_fits 2 s) (threshold (k_in s) (u16s s 8 (count_in s))) e)
shape-long Shape.Keys s e =
    threshold-long (width s) s (width_few s) (so (threshold_fits (width s) s) (keys (k_in s) (keys_in s)) e)

pub record-long : (s : List ℕ) {p : Payload} → fragment_payload s ≡ Some p → length s ≤ 136
record-long s e =
    let shaped = record-shape s (fragment-record s e).1 in
    shape-long shaped.0 s shaped.2

-- ---- parts of lists

pub take-take : (j k : ℕ) (s : List ℕ) → j ≤ k → take j (take k s) ≡ take j s
take-take zero k s h = refl
take-take (suc j) zero s h = absurd (omega arith)
take-take (suc j) (suc k) [] h = refl
take-take (suc j) (suc k) (b ∷ s) h = ap (λ (r : List ℕ). b ∷ r) (take-take j k s (omega arith))

pub take_part : (at n k : ℕ) (s : List ℕ) → at + k ≤ n → take k (drop at (take n s)) ≡ take k (drop at s)
take_part zero n k s h = take-take k n s (omega arith)
take_part (suc at) zero k s h = absurd (omega arith)
take_part (suc at) (suc n) k [] h = refl
take_part (suc at) (suc n) k (b ∷ s) h = take_part at n k s (omega arith)

take-few : (k : ℕ) (s : List ℕ) → (length (take k s) ≤ k) × (length (take k s) ≤ length s)
take-few zero s = (omega arith, omega arith)
take-few (suc k) [] = (omega arith, omega arith)
take-few (suc k) (b ∷ s) =
    let more = take-few k s in
    (omega arith, omega arith)

take_whole : (k : ℕ) (s : List ℕ) → length s ≤ k → take k s ≡ s
take_whole zero [] h = refl
take_whole zero (b ∷ s) h = absurd (omega arith)
take_whole (suc k) [] h = refl
take_whole (suc k) (b ∷ s) h = ap (λ (r : List ℕ). b ∷ r) (take_whole k s (omega arith))

-- ---- the first bytes of a list

pub whole_is : (s : List ℕ) {n : ℕ} → record_length s ≡ Some n → u16 s 0 ≡ n
whole_is s {n} e = by-test (between 4 (length s) (u16 s 0)) e
  where
    by-test : (t : Bool) → when_whole t (u16 s 0) ≡ Some n → u16 s 0 ≡ n
    by-test true e = cc
    by-test false e = cc

first_two : (k : ℕ) (s : List ℕ) → 2 ≤ length (take k s) → u16 (take k s) 0 ≡ u16 s 0
first_two k s h =
    let few = take-few k s in
    ap or_zero (found 2 (take k s) 0 (le-leb 2 (length (take k s)) h)
    ∙ ap (λ (l : List ℕ). Some (little l)) (take-take 2 k s (omega arith))
    ∙ sym (found 2 s 0 (le-leb 2 (length s) (omega arith))))

module _ (k : ℕ) (s : List ℕ) where
  pub front-whole : {len : ℕ} → record_length (take k s) ≡ Some len → record_length s ≡ Some len
  front-whole {len} e =
      let bounds = length-bounds (take k s) e in
      let few = take-few k s in
      let is : u16 s 0 ≡ len = sym (first_two k s (omega arith)) ∙ whole_is (take k s) e in
      length-fits s 0 (omega arith) (omega arith) ∙ ap Some is

  pub front-few : {len : ℕ} → record_length (take k s) ≡ Some len → len ≤ k
  front-few e =
      let bounds = length-bounds (take k s) e in
      let few = take-few k s in
      omega arith

  front-none : record_length (take k s) ≡ None → {len : ℕ} → record_length s ≡ Some len → k ≤ length s → 4 ≤ k → k < len
  front-none e {len} w room four = by_size (leb len k) refl
    where
      by_size : (t : Bool) → leb len k ≡ t → k < len
      by_size true b =
          let l = leb-true len k b in
          let bounds = length-bounds s w in
          let long = length-take-le k s room in
          let is : u16 (take k s) 0 ≡ len = first_two k s (omega arith) ∙ whole_is s w in
          let there = length-fits (take k s) 0 (omega arith) (omega arith) in
          absurd (let z : ◌≡◌ {A = ℕ} 0 1 = cc in omega arith)
      by_size false b = leb-false len k b

  -- no record of the form begins where the first bytes show none
  pub front-broken : (own : ℕ) (roots : List ℕ) → 0 < length s → record_length (take k s) ≡ None → ((length s ≤ k → ⊥) × (k ≡ 136)) ⊎ (length s ≤ k)
      → (more : ℕ) → in_order more own roots s ≡ false
  front-broken own roots h e (inr all) more = order-broken more own roots s h (subst (λ (l : List ℕ). record_length l ≡ None) (take_whole k s all) e)
  front-broken own roots h e (inl part) more = by_length (record_length s) refl
    where
      no_payload : {len : ℕ} → record_length s ≡ Some len → (o : Option Payload) → fragment_payload (take len s) ≡ o → o ≡ None
      no_payload w None p = refl
      no_payload {len} w (Some q) p =
          let long = length-take-le len s (omega (arith, length-bounds s w)) in
          let l = record-long (take len s) p in
          let over = front-none e w (omega (arith, not-all (length s) k part.0)) (omega (arith, part.1)) in
          absurd (omega (arith, part.1))
        where
          not-all : (a b : ℕ) → (a ≤ b → ⊥) → b < a
          not-all a b n = by_order (leb a b) refl
            where
              by_order : (t : Bool) → leb a b ≡ t → b < a
              by_order true l = absurd (n (leb-true a b l))
              by_order false l = leb-false a b l

      by_length : (o : Option ℕ) → record_length s ≡ o → in_order more own roots s ≡ false
      by_length None w = order-broken more own roots s h w
      by_length (Some len) w =
          let p : fragment_payload (take len s) ≡ None = no_payload w (fragment_payload (take len s)) refl in
          order-stops more own roots s h w (with-unfit roots own (take len s) p)

-- ---- the loop over the records

-- the first `at` bytes hold `own` records, whose roots stand at the front of a list, and the bytes behind them decide
pub record Progress (bytes roots : List ℕ) (top at own : ℕ) : Type 0 where
  pub rest : in_order (max_records - own) own (take top roots) (drop at bytes) ≡ is_written bytes
  pub within : at ≤ length bytes
  pub few : own ≤ max_records
  pub rooted : top ≤ own
  pub room : length roots ≡ max_records

pub progress-starts : (bytes roots : List ℕ) → length roots ≡ max_records → Progress bytes roots 0 0 0
unfolding is_written
progress-starts bytes roots e = record { rest = refl; within = omega arith; few = omega arith; rooted = omega arith; room = e }

module _ {bytes roots : List ℕ} {top at own : ℕ} (so_far : Progress bytes roots top at own) where
  some_left : at < length bytes → 0 < length (drop at bytes)
  some_left h = omega (arith, length-drop at bytes)

  pub progress-full : at < length bytes → own ≡ max_records → is_written bytes ≡ false
  progress-full h e =
      let z : max_records - own ≡ 0 = omega arith in
      sym so_far.rest ∙ ap (λ (n : ℕ). in_order n own (take top roots) (drop at bytes)) z ∙ order-full own (take top roots) (drop at bytes) (some_left h)

  pub progress-broken : ((more : ℕ) → in_order more own (take top roots) (drop at bytes) ≡ false) → is_written bytes ≡ false
  progress-broken f = sym so_far.rest ∙ f (max_records - own)

  pub progress-next : at < length bytes → own < max_records → (roots' : List ℕ) (len after : ℕ) → record_length (drop at bytes) ≡ Some len
      → with_record (take top roots) own (take len (drop at bytes)) ≡ Some (take after roots') → after ≤ own + 1 → length roots' ≡ max_records
      → Progress bytes roots' after (at + len) (own + 1)
  progress-next h l roots' len after w t fits long =
      let one : max_records - own ≡ suc (max_records - (own + 1)) = omega arith in
      record {
        rest =
            ap (λ (s : List ℕ). in_order (max_records - (own + 1)) (own + 1) (take after roots') s) (sym (drop-drop len at bytes))
            ∙ sym (order-goes-on (max_records - (own + 1)) own (take top roots) (drop at bytes) (take after roots') (some_left h) w t)
            ∙ ap (λ (n : ℕ). in_order n own (take top roots) (drop at bytes)) (sym one)
            ∙ so_far.rest;
        within = omega (arith, length-bounds (drop at bytes) w, length-drop at bytes);
        few = omega arith;
        rooted = fits;
        room = long;
      }

  pub progress-later : {len : ℕ} → record_length (drop at bytes) ≡ Some len → (at < at + len) × (at + len ≤ length bytes)
  progress-later w =
      let bounds = length-bounds (drop at bytes) w in
      (omega arith, omega (arith, length-drop at bytes))

  pub progress-ends : length bytes ≤ at → eqb top 1 ≡ is_written bytes
  progress-ends h =
      let long = length-take-le top roots (omega (arith, so_far.rooted, so_far.few, so_far.room)) in
      sym (sym so_far.rest ∙ order-end (max_records - own) own (take top roots) (drop at bytes) (omega (arith, length-drop at bytes))
      ∙ ap (λ (n : ℕ). eqb n 1) long)
