-- A record that is written, read: its length, its kind, and its payload by its shape. Assumes nothing.
use mathlib.Core.Path.{◌≡◌, refl, sym, ap, ◌∙◌}
use mathlib.Core.Bool.{true, cond}
use mathlib.Core.List.{List, [], ◌∷◌, ◌++◌, append_assoc, append-nil}
use Rattle.std.specs.Prelude.{Some}
use Prim.Native.Nat.{ℕ, ◌+◌, ◌*◌, ◌^◌, ◌<◌}
use native.Mathlib.Omega.{arith}
use borrow.Author.Tests.{le-leb, eq-eqb}
use lib.Dec.{eqb}
use lib.ListN.{length, length-append}
use Rattle.words.specs.Bytes.{bytes_of}
use Rattle.words.proofs.Bytes.{length-bytes}
use Rattle.records.specs.Numbers.{number_at, u16, u16s, numbers_at, max_lock, max_count}
use Rattle.records.specs.Shapes.{is_long, meant}
use Rattle.records.specs.Payloads.{number, children, threshold, keys, written_kind, width, number_in, keys_in}
use Rattle.records.specs.Payloads.{threshold_fits, children_payload, payload_of}
use Rattle.records.specs.RecordForm.{record_length, kind_of}
use Rattle.records.specs.declared.Shape.{Shape}
use Rattle.records.specs.declared.Shape.TheVariants as Shape
use Rattle.writing.specs.Writing.{record_of, in_row, k_and_n}
use Rattle.writing.specs.WellFormed.{AllBelow, IsLock, IsThreshold}
use Rattle.writing.proofs.Rows.{number-at, length-row, u16s-back, numbers-back}

module _ (kind : ℕ) (payload : List ℕ) where
  -- its length and its kind
  abbrev pub head : List ℕ
  head = bytes_of 2 (4 + length payload) ++ bytes_of 2 kind

  pub is-head : record_of kind payload ≡ head ++ payload
  is-head = sym (append_assoc (bytes_of 2 (4 + length payload)) (bytes_of 2 kind) payload)

  pub length-head : length head ≡ 4
  unfolding bytes_of
  length-head = refl

  pub length-record : length (record_of kind payload) ≡ 4 + length payload
  unfolding bytes_of
  length-record = omega arith

  pub record-whole : (rest : List ℕ) → length payload < 65532 → record_length (record_of kind payload ++ rest) ≡ Some (4 + length payload)
  record-whole rest few =
      let all = length-append (record_of kind payload) rest in
      let len : u16 (record_of kind payload ++ rest) 0 ≡ 4 + length payload =
      rw (
        append_assoc (bytes_of 2 (4 + length payload)) (bytes_of 2 kind ++ payload) rest,
        number-at 2 (4 + length payload) [] ((bytes_of 2 kind ++ payload) ++ rest) 0 refl (omega arith),
      ) in
      rw (
        len,
        le-leb 4 (4 + length payload) (omega arith),
        le-leb (4 + length payload) (length (record_of kind payload ++ rest)) (omega (arith, length-record)),
      )

  record-written : kind < 65536 → written_kind (record_of kind payload) ≡ kind
  record-written fits =
      rw (number-at 2 kind (bytes_of 2 (4 + length payload)) payload 2 (length-bytes 2 (4 + length payload)) fits)

  pub record-kind : kind < 65536 → kind_of (record_of kind payload) ≡ meant kind
  unfolding kind_of
  record-kind fits = ap meant (record-written fits)

  pub record-width : kind < 65536 → width (record_of kind payload) ≡ cond (is_long kind) 8 4
  unfolding width
  record-width fits = ap (λ (n : ℕ). cond (is_long n) 8 4) (record-written fits)

  -- the rest of a payload, and where it stands
  pub record-rest : (front rest : List ℕ) → payload ≡ front ++ rest → record_of kind payload ≡ (head ++ front) ++ rest
  record-rest front rest e = is-head ∙ ap (λ (l : List ℕ). head ++ l) e ∙ sym (append_assoc head front rest)

  pub length_front : (front : List ℕ) → length (head ++ front) ≡ 4 + length front
  length_front front = omega (arith, length-append head front, length-head)

  -- numbers in a payload
  module _ (front ns after : List ℕ) (at : ℕ) (place : 4 + length front ≡ at) where
    pub u16s-in : payload ≡ front ++ (in_row 2 ns ++ after) → AllBelow 65536 ns → u16s (record_of kind payload) at (length ns) ≡ ns
    u16s-in e below =
        ap (λ (s : List ℕ). u16s s at (length ns)) (record-rest front (in_row 2 ns ++ after) e)
        ∙ u16s-back ns (head ++ front) after at (length_front front ∙ place) below

    pub numbers-in : (w : ℕ) → payload ≡ front ++ (in_row w ns ++ after) → AllBelow (256 ^ w) ns
        → numbers_at w (record_of kind payload) at (length ns) ≡ ns
    numbers-in w e below =
        ap (λ (s : List ℕ). numbers_at w s at (length ns)) (record-rest front (in_row w ns ++ after) e)
        ∙ numbers-back w ns (head ++ front) after at (length_front front ∙ place) below

-- ---- payloads, by their shapes

-- a kind whose numbers have so many bytes
pub record Wide (kind w : ℕ) : Type 0 where
  pub is-u16 : kind < 65536
  pub is : cond (is_long kind) 8 4 ≡ w

module _ (kind w : ℕ) (wide : Wide kind w) where
  its-width : (payload : List ℕ) → width (record_of kind payload) ≡ w
  its-width payload = record-width kind payload wide.is-u16 ∙ wide.is

  number_read : (n : ℕ) → n < 256 ^ w → number_in (record_of kind (bytes_of w n)) ≡ n
  unfolding in_row AllBelow numbers_at
  number_read n fits =
      let s = record_of kind (bytes_of w n) in
      let row : bytes_of w n ≡ [] ++ (in_row w (n ∷ []) ++ []) = sym (append-nil (bytes_of w n ++ []) ∙ append-nil (bytes_of w n)) in
      let read : number_at w s 4 ∷ [] ≡ n ∷ [] = numbers-in kind (bytes_of w n) [] (n ∷ []) [] 4 refl w row (fits, tt) in
      let first : number_at w s 4 ≡ n = cc in
      ap (λ (v : ℕ). number_at v s 4) (its-width (bytes_of w n)) ∙ first

  number-length : (n : ℕ) → length (record_of kind (bytes_of w n)) ≡ 4 + w
  number-length n = omega (arith, length-record kind (bytes_of w n), length-bytes w n)

  pub number-back : (n : ℕ) → n < 256 ^ w → payload_of Shape.Number (record_of kind (bytes_of w n)) ≡ Some (number n)
  unfolding payload_of
  number-back n fits =
      let s = record_of kind (bytes_of w n) in
      let long : eqb (length s) (4 + width s) ≡ true =
      eq-eqb (length s) (4 + width s) (number-length n ∙ ap (λ (v : ℕ). 4 + v) (sym (its-width (bytes_of w n)))) in
      rw (long, number_read n fits)

module _ (kind : ℕ) where
  pub lock-back : Wide kind 4 → (n : ℕ) → IsLock n → payload_of Shape.Lock (record_of kind (bytes_of 4 n)) ≡ Some (number n)
  unfolding payload_of
  lock-back wide n fits =
      let s = record_of kind (bytes_of 4 n) in
      rw (eq-eqb (length s) 8 (number-length kind 4 wide n), number_read kind 4 wide n (omega arith), le-leb 1 n fits.0, le-leb n max_lock fits.1)

  pub children-back : (cs : List ℕ) → AllBelow 65536 cs → children_payload (length cs) (record_of kind (in_row 2 cs)) ≡ Some (children cs)
  children-back cs below =
      let s = record_of kind (in_row 2 cs) in
      let row : in_row 2 cs ≡ [] ++ (in_row 2 cs ++ []) = sym (append-nil (in_row 2 cs)) in
      let len : eqb (length s) (4 + 2 * length cs) ≡ true =
      eq-eqb (length s) (4 + 2 * length cs) (omega (arith, length-record kind (in_row 2 cs), length-row 2 cs)) in
      rw (len, u16s-in kind (in_row 2 cs) [] cs [] 4 refl row below)

  -- k and n, then n numbers
  abbrev pub threshold_record : (width k : ℕ) → List ℕ → List ℕ
  threshold_record width k ns = record_of kind (k_and_n k (length ns) ++ in_row width ns)

  module _ (width k : ℕ) (ns : List ℕ) where
    row-place : 4 + length (k_and_n k (length ns)) ≡ 8
    row-place = omega (arith, length-row 2 (k ∷ length ns ∷ []))

    row_last : k_and_n k (length ns) ++ in_row width ns ≡ k_and_n k (length ns) ++ (in_row width ns ++ [])
    row_last = rw (append-nil (in_row width ns))

    k-and-n : IsThreshold k (length ns) → (u16 (threshold_record width k ns) 4 ≡ k) × (u16 (threshold_record width k ns) 6 ≡ length ns)
    unfolding u16s AllBelow
    k-and-n fits =
        let s = threshold_record width k ns in
        let read : u16 s 4 ∷ u16 s 6 ∷ [] ≡ k ∷ length ns ∷ [] =
        u16s-in kind (k_and_n k (length ns) ++ in_row width ns) [] (k ∷ length ns ∷ []) (in_row width ns) 4 refl refl (omega arith) in
        (cc, cc)

    threshold-fits : IsThreshold k (length ns) → threshold_fits width (threshold_record width k ns) ≡ true
    threshold-fits fits =
        let s = threshold_record width k ns in
        let front = k_and_n k (length ns) in
        let len : length s ≡ 8 + width * length ns =
        omega (arith, length-record kind (front ++ in_row width ns), length-append front (in_row width ns), row-place, length-row width ns) in
        rw (
          (k-and-n fits).0,
          (k-and-n fits).1,
          le-leb 1 k fits.0,
          le-leb k (length ns) fits.1,
          le-leb (length ns) max_count fits.2,
          eq-eqb (length s) (8 + width * length ns) len,
        )

  pub threshold-back : (k : ℕ) (cs : List ℕ) → IsThreshold k (length cs) → AllBelow 65536 cs
      → payload_of Shape.Threshold (threshold_record 2 k cs) ≡ Some (threshold k cs)
  unfolding payload_of
  threshold-back k cs fits below =
      let front = k_and_n k (length cs) in
      let row = u16s-in kind (front ++ in_row 2 cs) front cs [] 8 (row-place 2 k cs) (row_last 2 k cs) below in
      rw (threshold-fits 2 k cs fits, (k-and-n 2 k cs fits).0, (k-and-n 2 k cs fits).1, row)

  pub keys-back : (w : ℕ) → Wide kind w → (k : ℕ) (ks : List ℕ) → IsThreshold k (length ks) → AllBelow (256 ^ w) ks
      → payload_of Shape.Keys (threshold_record w k ks) ≡ Some (keys k ks)
  unfolding payload_of
  keys-back w wide k ks fits below =
      let front = k_and_n k (length ks) in
      let s = threshold_record w k ks in
      let row = numbers-in kind (front ++ in_row w ks) front ks [] 8 (row-place w k ks) w (row_last w k ks) below in
      let fit : threshold_fits (width s) s ≡ true =
      ap (λ (v : ℕ). threshold_fits v s) (its-width kind w wide (front ++ in_row w ks)) ∙ threshold-fits w k ks fits in
      let read : keys_in s ≡ ks =
      ap (λ (v : ℕ). numbers_at v s 8 (u16 s 6)) (its-width kind w wide (front ++ in_row w ks)) ∙ rw (k-and-n w k ks fits).1 row in
      rw (fit, (k-and-n w k ks fits).0, read)
