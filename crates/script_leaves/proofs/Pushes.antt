-- The VERIFY that follows an opcode, the push of a number by its width, and the push of a table's entry. Assumes nothing.
use Prim.Native.Nat.{ℕ, zero, suc, ◌+◌, ◌*◌, ◌/◌, ◌%◌, ◌-◌, ◌<◌, ◌≤◌}
use mathlib.Core.Bool.{Bool, true, false}
use mathlib.Core.List.{[], ◌∷◌, ◌++◌}
use mathlib.Core.Path.{◌≡◌, refl, sym, ◌∙◌, ap}
use native.Mathlib.Nat.{suc-mul}
use native.Mathlib.Numerals.{add-one}
use native.Mathlib.Omega.{arith}
use borrow.Author.Tests.{leb-true, le-leb, lt-leb, lt-ltb, le-ltb, ltb-true, ltb-false, ne_eqb}
use lib.Dec.{ltb}
use lib.ListN.{length, get_or, take, drop, length-drop, drop_of_length-le}
use lib.Seq.{length-take-le, drop-cons}
use Rattle.words.specs.Bytes as Little
use Rattle.words.proofs.Bytes.{length-bytes}
use Rattle.contexts.specs.declared.Context.{Context}
use Rattle.contexts.specs.declared.Context.TheVariants.{Segwitv0, Tap}
use Rattle.script_machine.specs.Numbers.{Bytes, digits, signed, write}
use Rattle.script_bytes.specs.Tables.{entry, whole, key_size}
use Rattle.script_bytes.specs.Encoding.{push_bytes}
use Rattle.script_bytes.specs.Layout.{verify_byte, test_byte, number_bytes}
use Rattle.script_leaves.specs.Laying.{EntrySize}

-- ---- an opcode by whether a VERIFY follows

pub verify-on : (v : Bool) → v ≡ true → 0x69 ∷ [] ≡ verify_byte v
verify-on v e = rw e

pub verify-off : (v : Bool) → v ≡ false → [] ≡ verify_byte v
verify-off v e = rw e

pub test_on : (n : ℕ) (v : Bool) → v ≡ true → (n + 1) ∷ [] ≡ test_byte n v
test_on n v e = rw (add-one n, e)

pub test-off : (n : ℕ) (v : Bool) → v ≡ false → n ∷ [] ≡ test_byte n v
test-off n v e = rw e

-- ---- a number that is not negative: its digits, and a zero where the last one would be taken for a sign

digits-none : (bound : ℕ) → digits bound 0 ≡ []
unfolding digits
digits-none zero = refl
digits-none (suc bound) = refl

digits-next : (bound n : ℕ) → 0 < n → digits (suc bound) n ≡ n % 256 ∷ digits bound (n / 256)
unfolding digits
digits-next bound n h = rw (ne_eqb n 0 (λ e. omega arith), digits)

-- one digit
digits-one : (bound n : ℕ) → 0 < n → n < 256 → digits (suc bound) n ≡ n ∷ []
digits-one bound n l h =
    let low : n % 256 ≡ n = omega arith in
    let high : n / 256 ≡ 0 = omega arith in
    digits-next bound n l ∙ rw (low, high, digits-none bound)

signed-more : (x : ℕ) (bound n : ℕ) → 0 < n → 0 < bound → signed false (x ∷ digits bound n) ≡ x ∷ signed false (digits bound n)
unfolding signed
signed-more x zero n l b = absurd (omega arith)
signed-more x (suc bound) n l b = rw (digits-next bound n l)

-- by the width, for any bound that is large enough
width-1 : (bound n : ℕ) → n ≤ bound → 0 < n → n < 128 → signed false (digits bound n) ≡ Little.bytes_of 1 n
unfolding signed Little.bytes_of
width-1 zero n b l h = absurd (omega arith)
width-1 (suc bound) n b l h =
    let low : n % 256 ≡ n = omega arith in
    rw (digits-one bound n l (omega arith), lt-ltb n 128 h, low)

one_more : (width bound n : ℕ) → n ≤ bound → 256 ≤ n
    → ((b : ℕ) → n / 256 ≤ b → signed false (digits b (n / 256)) ≡ Little.bytes_of width (n / 256))
    → signed false (digits bound n) ≡ Little.bytes_of (suc width) n
unfolding Little.bytes_of
one_more width zero n b h e = absurd (omega arith)
one_more width (suc bound) n b h e =
    rw (digits-next bound n (omega arith), signed-more (n % 256) bound (n / 256) (omega arith) (omega arith), e bound (omega arith))

width-2-low : (bound n : ℕ) → n ≤ bound → 128 ≤ n → n < 256 → signed false (digits bound n) ≡ Little.bytes_of 2 n
unfolding signed Little.bytes_of
width-2-low zero n b l h = absurd (omega arith)
width-2-low (suc bound) n b l h =
    let low : n % 256 ≡ n = omega arith in
    let high : n / 256 % 256 ≡ 0 = omega arith in
    rw (digits-one bound n (omega arith) h, le-ltb n 128 l, low, high)

width-2 : (bound n : ℕ) → n ≤ bound → 128 ≤ n → n < 32768 → signed false (digits bound n) ≡ Little.bytes_of 2 n
width-2 bound n b l h = by-test (ltb n 256) refl
  where
    by-test : (t : Bool) → ltb n 256 ≡ t → signed false (digits bound n) ≡ Little.bytes_of 2 n
    by-test true e = width-2-low bound n b l (ltb-true n 256 e)
    by-test false e =
        let large = ltb-false n 256 e in
        one_more 1 bound n b large (λ d m. width-1 d (n / 256) m (omega arith) (omega arith))

width-3 : (bound n : ℕ) → n ≤ bound → 32768 ≤ n → n < 8388608 → signed false (digits bound n) ≡ Little.bytes_of 3 n
width-3 bound n b l h = one_more 2 bound n b (omega arith) (λ d m. width-2 d (n / 256) m (omega arith) (omega arith))

width-4 : (bound n : ℕ) → n ≤ bound → 8388608 ≤ n → n < 2147483648 → signed false (digits bound n) ≡ Little.bytes_of 4 n
width-4 bound n b l h = one_more 3 bound n b (omega arith) (λ d m. width-3 d (n / 256) m (omega arith) (omega arith))

width-5 : (bound n : ℕ) → n ≤ bound → 2147483648 ≤ n → n < 549755813888 → signed false (digits bound n) ≡ Little.bytes_of 5 n
width-5 bound n b l h = one_more 4 bound n b (omega arith) (λ d m. width-4 d (n / 256) m (omega arith) (omega arith))

-- ---- the push of a number

pub number-none : (n : ℕ) → n ≡ 0 → 0x00 ∷ [] ≡ number_bytes n
unfolding push_bytes write signed digits
number-none n e = rw e

pub number_small : (n : ℕ) → 0 < n → n ≤ 16 → (0x50 + n) ∷ [] ≡ number_bytes n
unfolding push_bytes write Little.bytes_of
number_small n l h =
    let low : n % 256 ≡ n = omega arith in
    rw (width-1 n n (omega arith) l (omega arith), low, le-leb 1 n l, le-leb n 16 h)

pub number-1 : (n : ℕ) → 16 < n → n < 128 → number_bytes n ≡ 1 ∷ Little.bytes_of 1 n
unfolding push_bytes write Little.bytes_of
number-1 n l h =
    let low : n % 256 ≡ n = omega arith in
    rw (width-1 n n (omega arith) (omega arith) h, low, le-leb 1 n (omega arith), lt-leb n 16 l, ne_eqb n 0x81 (λ e. omega arith))

-- a push of two bytes or more begins with their count
push-many : (bytes : Bytes) → 2 ≤ length bytes → push_bytes bytes ≡ length bytes ∷ bytes
unfolding push_bytes
push-many [] h = absurd (omega arith)
push-many (b ∷ []) h = absurd (omega arith)
push-many (b ∷ d ∷ bytes) h = refl

push-width : (width n : ℕ) → 2 ≤ width → signed false (digits n n) ≡ Little.bytes_of width n → number_bytes n ≡ width ∷ Little.bytes_of width n
unfolding write
push-width width n h e =
    let long : length (Little.bytes_of width n) ≡ width = length-bytes width n in
    ap push_bytes e ∙ push-many (Little.bytes_of width n) (omega arith) ∙ ap (λ (k : ℕ). k ∷ Little.bytes_of width n) long

pub number-2 : (n : ℕ) → 128 ≤ n → n < 32768 → number_bytes n ≡ 2 ∷ Little.bytes_of 2 n
number-2 n l h = push-width 2 n (omega arith) (width-2 n n (omega arith) l h)

pub number-3 : (n : ℕ) → 32768 ≤ n → n < 8388608 → number_bytes n ≡ 3 ∷ Little.bytes_of 3 n
number-3 n l h = push-width 3 n (omega arith) (width-3 n n (omega arith) l h)

pub number-4 : (n : ℕ) → 8388608 ≤ n → n < 2147483648 → number_bytes n ≡ 4 ∷ Little.bytes_of 4 n
number-4 n l h = push-width 4 n (omega arith) (width-4 n n (omega arith) l h)

pub number-5 : (n : ℕ) → 2147483648 ≤ n → n < 4294967296 → number_bytes n ≡ 5 ∷ Little.bytes_of 5 n
number-5 n l h = push-width 5 n (omega arith) (width-5 n n (omega arith) l (omega arith))

-- the size of what every hash is of
pub number-32 : number_bytes 32 ≡ 0x01 ∷ 0x20 ∷ []
unfolding push_bytes write signed digits
number-32 = refl

-- the bytes of a number that are still to come
pub little-next : (width i n : ℕ) → i < width → Little.bytes_of (width - i) n ≡ (n % 256 ∷ []) ++ Little.bytes_of (width - (i + 1)) (n / 256)
unfolding Little.bytes_of
little-next width i n h =
    let e : width - i ≡ suc (width - (i + 1)) = omega arith in
    rw e

pub little-first : (width n : ℕ) → Little.bytes_of (width - 0) n ≡ Little.bytes_of width n
little-first width n =
    let e : width - 0 ≡ width = omega arith in
    rw e

pub little-none : (width i n : ℕ) → width ≤ i → Little.bytes_of (width - i) n ≡ []
unfolding Little.bytes_of
little-none width i n h =
    let e : width - i ≡ 0 = omega arith in
    rw e

-- bytes as they are that are still to come
pub bytes_next : (bytes : Bytes) (i : ℕ) → i < length bytes → drop i bytes ≡ (get_or bytes i 0 ∷ []) ++ drop (i + 1) bytes
bytes_next bytes i h = drop-cons bytes i 0 h ∙ rw (add-one i)

pub bytes-none : (bytes : Bytes) (i : ℕ) → length bytes ≤ i → drop i bytes ≡ []
bytes-none bytes i h = drop_of_length-le bytes h

-- ---- the push of an entry

module _ (size : ℕ) (table : Bytes) (i : ℕ) (w : whole size table i ≡ true) where
  -- where an entry ends
  pub entry-ends : i * size + size ≤ length table
  entry-ends =
      let next : suc i * size ≡ i * size + size = suc-mul i size in
      omega (arith, leb-true (suc i * size) (length table) w)

  entry-long : length (entry size table i) ≡ size
  entry-long = length-take-le size (drop (i * size) table) (omega (arith, entry-ends, length-drop (i * size) table))

  -- its size, and the part of the table from its start to its end
  pub entry-pushed : EntrySize size → size ∷ take (i * size + size - i * size) (drop (i * size) table) ≡ push_bytes (entry size table i)
  entry-pushed s =
      let long = entry-long in
      let same : i * size + size - i * size ≡ size = omega arith in
      ap (λ (k : ℕ). size ∷ take k (drop (i * size) table)) same
      ∙ sym (push-many (entry size table i) (omega (arith, s.some)) ∙ ap (λ (k : ℕ). k ∷ entry size table i) long)

key-entry : (c : Context) → EntrySize (key_size c)
key-entry Segwitv0 = record { some = omega arith; few = omega arith }
key-entry Tap = record { some = omega arith; few = omega arith }

-- a key is an entry of its table
pub key-ready : (c : Context) (size : ℕ) (table : Bytes) (i : ℕ) → size ≡ key_size c → whole (key_size c) table i ≡ true
    → EntrySize size × (whole size table i ≡ true)
key-ready c size table i e w = rw e (key-entry c, w)
