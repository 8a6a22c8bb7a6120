-- Laws on records for the crates above: the whole length, the kind, the payload of each shape, and the sixteen places. Assumes nothing.
use mathlib.Core.Path.{◌≡◌, refl, sym, ap, ◌∙◌}
use mathlib.Core.Bool.{Bool, true, false, ◌&&◌}
use mathlib.Core.List.{List, [], ◌∷◌}
use Rattle.std.specs.Prelude.{Option, None, Some}
use Prim.Native.Nat.{ℕ, suc, ◌+◌, ◌-◌, ◌<◌, ◌≤◌}
use native.Mathlib.Omega.{arith}
use borrow.Author.Tests.{leb-true, le-leb, lt-leb}
use lib.Dec.{leb, eqb}
use lib.ListN.{length, get_or, drop, replicate, length-append, length-drop, length-replicate, get_or-append}
use Rattle.records.specs.Numbers.{u16, u32, u16s, numbers_at, between, max_lock, max_count}
use Rattle.records.specs.Shapes.{shape_of, is_policy_kind, is_fragment_kind}
use Rattle.records.specs.Payloads.{Payload, nothing, number, children, weighted, threshold, keys}
use Rattle.records.specs.Payloads.{width, number_in, key_at, first_keys, keys_from, keys_in, when, threshold_fits, payload_of, children_of}
use Rattle.records.specs.RecordForm.{when_whole, record_length, kind_of, payload_as, only_if}
use Rattle.records.specs.RecordForm.{record_payload, policy_payload, fragment_payload}
use Rattle.records.specs.Answers.{padded, parts_of}
use Rattle.records.specs.declared.Shape.{Shape}
use Rattle.records.proofs.Numbers.{u16-drop, length-u16s, length-numbers}
use Rattle.records.proofs.Forms.{and_left, and_right, fits-bounds}
use Rattle.records.proofs.Widths.{first-place, next_place}

-- ---- the whole length

between-bounds : (low high n : ℕ) → between low high n ≡ true → (low ≤ n) × (n ≤ high)
between-bounds low high n e =
    (leb-true low n (and_left (leb low n) (leb n high) e), leb-true n high (and_right (leb low n) (leb n high) e))

pub length-bounds : (s : List ℕ) {n : ℕ} → record_length s ≡ Some n → (4 ≤ n) × (n ≤ length s)
length-bounds s {n} e = by-test (between 4 (length s) (u16 s 0)) refl e
  where
    by-test : (t : Bool) → between 4 (length s) (u16 s 0) ≡ t → when_whole t (u16 s 0) ≡ Some n → (4 ≤ n) × (n ≤ length s)
    by-test true b e =
        let same : u16 s 0 ≡ n = cc in
        rw same at (between-bounds 4 (length s) (u16 s 0) b)
    by-test false b e = absurd (let z : ◌≡◌ {A = ℕ} 0 1 = cc in omega arith)

-- a record that begins at a place ends in the list
pub whole_room : (s : List ℕ) (at : ℕ) {n : ℕ} → record_length (drop at s) ≡ Some n → at + n ≤ length s
whole_room s at e =
    let bounds = length-bounds (drop at s) e in
    omega (arith, length-drop at s)

-- what `length_at` told
pub whole_length : (s : List ℕ) (at : ℕ) {r : Option ℕ} {n : ℕ} → r ≡ record_length (drop at s) → r ≡ Some n
    → record_length (drop at s) ≡ Some n
whole_length s at e w = sym e ∙ w

pub broken-length : (s : List ℕ) (at : ℕ) {r : Option ℕ} → r ≡ record_length (drop at s) → r ≡ None
    → record_length (drop at s) ≡ None
broken-length s at e w = sym e ∙ w

-- from the number at a place and what is left there
pub length-too-small : (s : List ℕ) (at : ℕ) → u16 s at < 4 → record_length (drop at s) ≡ None
length-too-small s at h = rw (u16-drop s at, lt-leb 4 (u16 s at) h)

pub length-too-large : (s : List ℕ) (at : ℕ) → 4 ≤ u16 s at → length s - at < u16 s at → record_length (drop at s) ≡ None
length-too-large s at l h = rw (u16-drop s at, length-drop at s, le-leb 4 (u16 s at) l, lt-leb (u16 s at) (length s - at) h)

pub length-fits : (s : List ℕ) (at : ℕ) → 4 ≤ u16 s at → u16 s at ≤ length s - at → record_length (drop at s) ≡ Some (u16 s at)
length-fits s at l h = rw (u16-drop s at, length-drop at s, le-leb 4 (u16 s at) l, le-leb (u16 s at) (length s - at) h)

-- ---- the kind

pub of-policy : (s : List ℕ) {shape : Shape} → is_policy_kind (kind_of s) ≡ true → shape_of (kind_of s) ≡ Some shape → policy_payload s ≡ payload_of shape s
of-policy s k e = rw (k, e)

pub of-fragment : (s : List ℕ) {shape : Shape} → is_fragment_kind (kind_of s) ≡ true → shape_of (kind_of s) ≡ Some shape
    → fragment_payload s ≡ payload_of shape s
of-fragment s k e = rw (k, e)

only-if : (t : Bool) (o : Option Payload) {p : Payload} → only_if t o ≡ Some p → (t ≡ true) × (o ≡ Some p)
only-if true o e = (refl, e)
only-if false o e = absurd (let z : ◌≡◌ {A = ℕ} 0 1 = cc in omega arith)

-- a record of a policy or of a fragment tree has a kind of theirs
pub policy-record : (s : List ℕ) {p : Payload} → policy_payload s ≡ Some p → (is_policy_kind (kind_of s) ≡ true) × (record_payload s ≡ Some p)
policy-record s e = only-if (is_policy_kind (kind_of s)) (record_payload s) e

pub fragment-record : (s : List ℕ) {p : Payload} → fragment_payload s ≡ Some p → (is_fragment_kind (kind_of s) ≡ true) × (record_payload s ≡ Some p)
fragment-record s e = only-if (is_fragment_kind (kind_of s)) (record_payload s) e

-- a record has the shape of its kind
pub record-shape : (s : List ℕ) {p : Payload} → record_payload s ≡ Some p
    → (shape : Shape) × (shape_of (kind_of s) ≡ Some shape) × (payload_of shape s ≡ Some p)
record-shape s {p} e = by_shape (shape_of (kind_of s)) refl e
  where
    by_shape : (o : Option Shape) → shape_of (kind_of s) ≡ o → payload_as o s ≡ Some p
        → (shape : Shape) × (shape_of (kind_of s) ≡ Some shape) × (payload_of shape s ≡ Some p)
    by_shape (Some shape) k e = (shape, k, e)
    by_shape None k e = absurd (let z : ◌≡◌ {A = ℕ} 0 1 = cc in omega arith)

-- ---- the payload

-- what a reader told
pub fits-some : (o : Option Payload) → (parts_of o).fits ≡ true → (p : Payload) × (o ≡ Some p)
fits-some (Some p) e = (p, refl)
fits-some None e = absurd (let z : ◌≡◌ {A = ℕ} 0 1 = cc in omega arith)

pub unfit-none : (o : Option Payload) → (parts_of o).fits ≡ false → o ≡ None
unfit-none (Some p) e = cc
unfit-none None e = refl

when-is : (t : Bool) (q : Payload) {p : Payload} → when t q ≡ Some p → p ≡ q
when-is true q e = cc
when-is false q e = cc

when_true : (t : Bool) (q : Payload) {p : Payload} → when t q ≡ Some p → t ≡ true
when_true true q e = refl
when_true false q e = cc

-- what a payload of each shape is

module _ (s : List ℕ) {p : Payload} where
  pub is-nothing : payload_of Shape.Nothing s ≡ Some p → p ≡ nothing
  unfolding payload_of
  is-nothing e = when-is (eqb (length s) 4) nothing e

  pub is_number : payload_of Shape.Number s ≡ Some p → p ≡ number (number_in s)
  unfolding payload_of
  is_number e = when-is (eqb (length s) (4 + width s)) (number (number_in s)) e

  pub is-lock : payload_of Shape.Lock s ≡ Some p → p ≡ number (number_in s)
  unfolding payload_of
  is-lock e = when-is (eqb (length s) 8 && between 1 max_lock (number_in s)) (number (number_in s)) e

  pub is-one-child : payload_of Shape.OneChild s ≡ Some p → p ≡ children (u16 s 4 ∷ [])
  unfolding payload_of u16s
  is-one-child e = when-is (eqb (length s) 6) (children (u16 s 4 ∷ [])) e

  pub is-two-children : payload_of Shape.TwoChildren s ≡ Some p → p ≡ children (u16 s 4 ∷ u16 s 6 ∷ [])
  unfolding payload_of u16s
  is-two-children e = when-is (eqb (length s) 8) (children (u16 s 4 ∷ u16 s 6 ∷ [])) e

  pub is-three-children : payload_of Shape.ThreeChildren s ≡ Some p → p ≡ children (u16 s 4 ∷ u16 s 6 ∷ u16 s 8 ∷ [])
  unfolding payload_of u16s
  is-three-children e = when-is (eqb (length s) 10) (children (u16 s 4 ∷ u16 s 6 ∷ u16 s 8 ∷ [])) e

  pub is-weighted : payload_of Shape.Weighted s ≡ Some p → p ≡ weighted (u16 s 4) (u16 s 6) (u32 s 8) (u32 s 12)
  unfolding payload_of
  is-weighted e = when-is (eqb (length s) 16) (weighted (u16 s 4) (u16 s 6) (u32 s 8) (u32 s 12)) e

  pub is-threshold : payload_of Shape.Threshold s ≡ Some p → p ≡ threshold (u16 s 4) (u16s s 8 (u16 s 6))
  unfolding payload_of
  is-threshold e = when-is (threshold_fits 2 s) (threshold (u16 s 4) (u16s s 8 (u16 s 6))) e

  pub is-keys : payload_of Shape.Keys s ≡ Some p → p ≡ keys (u16 s 4) (keys_in s)
  unfolding payload_of
  is-keys e = when-is (threshold_fits (width s) s) (keys (u16 s 4) (keys_in s)) e

-- a lock's number, a threshold's k and n

pub lock-bounds : (s : List ℕ) {n : ℕ} → payload_of Shape.Lock s ≡ Some (number n) → (1 ≤ n) × (n ≤ max_lock)
unfolding payload_of
lock-bounds s {n} e =
    let same : n ≡ number_in s = cc (is-lock s e) in
    rw same (between-bounds 1 max_lock (number_in s) (and_right (eqb (length s) 8) (between 1 max_lock (number_in s))
    (when_true (eqb (length s) 8 && between 1 max_lock (number_in s)) (number (number_in s)) e)))

pub threshold-bounds : (s : List ℕ) {k : ℕ} {cs : List ℕ} → payload_of Shape.Threshold s ≡ Some (threshold k cs)
    → (1 ≤ k) × (k ≤ length cs) × (length cs ≤ max_count)
unfolding payload_of
threshold-bounds s {k} {cs} e =
    let is = is-threshold s e in
    let same_k : k ≡ u16 s 4 = cc is in
    let same_n : length cs ≡ u16 s 6 = (let l : cs ≡ u16s s 8 (u16 s 6) = cc is in ap length l) ∙ length-u16s s 8 (u16 s 6) in
    rw (same_k, same_n) (fits-bounds 2 s (when_true (threshold_fits 2 s) (threshold (u16 s 4) (u16s s 8 (u16 s 6))) e))

pub keys-bounds : (s : List ℕ) {k : ℕ} {ks : List ℕ} → payload_of Shape.Keys s ≡ Some (keys k ks)
    → (1 ≤ k) × (k ≤ length ks) × (length ks ≤ max_count)
unfolding payload_of
keys-bounds s {k} {ks} e =
    let is = is-keys s e in
    let same_k : k ≡ u16 s 4 = cc is in
    let same_n : length ks ≡ u16 s 6 = (let l : ks ≡ keys_in s = cc is in ap length l) ∙ length-numbers (width s) s 8 (u16 s 6) in
    rw (same_k, same_n) (fits-bounds (width s) s (when_true (threshold_fits (width s) s) (keys (u16 s 4) (keys_in s)) e))

-- never more children than places for them
pub children-few : (shape : Shape) (s : List ℕ) {p : Payload} → payload_of shape s ≡ Some p → length (children_of p) ≤ max_count
children-few Shape.Nothing s e = rw (is-nothing s e) (omega arith)
children-few Shape.Number s e = rw (is_number s e) (omega arith)
children-few Shape.Lock s e = rw (is-lock s e) (omega arith)
children-few Shape.OneChild s e = rw (is-one-child s e) (omega arith)
children-few Shape.TwoChildren s e = rw (is-two-children s e) (omega arith)
children-few Shape.ThreeChildren s e = rw (is-three-children s e) (omega arith)
children-few Shape.Weighted s e = rw (is-weighted s e) (omega arith)
children-few Shape.Threshold s e =
    let is = is-threshold s e in
    rw is (threshold-bounds s (e ∙ ap Some is)).2
children-few Shape.Keys s e = rw (is-keys s e) (omega arith)

-- ---- the keys of a Multi or a MultiA, one after the other

module _ (s : List ℕ) (n : ℕ) where
  pub keys-first : keys_from s n 0 ≡ first_keys s n
  keys-first =
      let e : n - 0 ≡ n = omega arith in
      rw (e, first-place (width s))

  pub keys-next : (j : ℕ) → j < n → keys_from s n j ≡ key_at s j ∷ keys_from s n (j + 1)
  unfolding numbers_at
  keys-next j h =
      let e : n - j ≡ suc (n - (j + 1)) = omega arith in
      rw (e, next_place (width s) j)

  pub keys-end : (j : ℕ) → n ≤ j → keys_from s n j ≡ []
  unfolding numbers_at
  keys-end j h =
      let e : n - j ≡ 0 = omega arith in
      rw e

  pub length-keys : length (first_keys s n) ≡ n
  length-keys = length-numbers (width s) s 8 n

-- ---- the sixteen places

pub padded-at : (cs : List ℕ) (i : ℕ) → i < length cs → get_or (padded cs) i 0 ≡ get_or cs i 0
padded-at cs i h = get_or-append cs (replicate (max_count - length cs) 0) 0 i h

pub length-padded : (cs : List ℕ) → length cs ≤ max_count → length (padded cs) ≡ max_count
length-padded cs h = rw (length-append cs (replicate (max_count - length cs) 0), length-replicate) (omega arith)
