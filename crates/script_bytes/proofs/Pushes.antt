-- The push of a number, by its range, and of an entry of a table. Assumes nothing.
use Prim.Native.Nat.{ℕ, zero, suc, ◌+◌, ◌*◌, ◌/◌, ◌%◌, ◌≤◌, ◌<◌}
use native.Mathlib.Omega.{arith}
use mathlib.Core.Bool.{Bool, true, false}
use mathlib.Core.List.{[], ◌∷◌}
use mathlib.Core.Path.{◌≡◌, refl, sym, ◌∙◌, ap}
use borrow.Author.Tests.{eqb-true, eqb-false, leb-true, leb-false, ltb-true, ltb-false, lt-ltb, le-ltb, le-leb, lt-leb, ne_eqb}
use lib.Dec.{leb, ltb, eqb}
use lib.IntN.{pos}
use lib.ListN.{length, drop, length-take, length-drop}
use Rattle.words.specs.Bytes.{bytes_of}
use Rattle.contexts.specs.declared.Context.{Context}
use Rattle.contexts.specs.declared.Context.TheVariants.{Segwitv0, Tap}
use Rattle.contexts.specs.Leaves.{HashKind, Sha256, Hash256, Ripemd160, Hash160}
use Rattle.script_machine.specs.Numbers.{Bytes, write, signed, digits}
use Rattle.script_bytes.specs.Tables.{Tables, entry, whole, key_size, key_hash_size, hash_size, hash_table}
use Rattle.script_bytes.specs.Tables.{key, key_hash, hash, has_key, has_key_hash, has_hash}
use Rattle.script_bytes.specs.Encoding.{push_bytes}
use Rattle.script_bytes.specs.Layout.{number_bytes}

-- ---- the digits of a number

digits-none : (f : ℕ) → digits f 0 ≡ []
unfolding digits
digits-none zero = refl
digits-none (suc f) = refl

digits_more : (f n : ℕ) → 1 ≤ n → digits (suc f) n ≡ n % 256 ∷ digits f (n / 256)
unfolding digits
digits_more f n l = rw (ne_eqb n 0 (λ e. omega arith), digits)

-- a bound that is large enough does not matter
digits-bound : (f g n : ℕ) → n ≤ f → n ≤ g → digits f n ≡ digits g n
digits-bound zero g n k l = let e : n ≡ 0 = omega arith in rw e (digits-none 0 ∙ sym (digits-none g))
digits-bound (suc f) zero n k l = let e : n ≡ 0 = omega arith in rw e (digits-none (suc f) ∙ sym (digits-none 0))
digits-bound (suc f) (suc g) n k l = go (eqb n 0) refl (digits-bound f g (n / 256))
  where
    go : (b : Bool) → eqb n 0 ≡ b → (n / 256 ≤ f → n / 256 ≤ g → digits f (n / 256) ≡ digits g (n / 256)) → digits (suc f) n ≡ digits (suc g) n
    go true e rest = let z = eqb-true n 0 e in rw z (digits-none (suc f) ∙ sym (digits-none (suc g)))
    go false e rest =
        let some : 1 ≤ n = omega (arith, eqb-false n 0 e) in
        digits_more f n some
        ∙ ap (λ (z : Bytes). n % 256 ∷ z) (rest (omega arith) (omega arith))
        ∙ sym (digits_more g n some)

digits_step : (n : ℕ) → 1 ≤ n → digits n n ≡ n % 256 ∷ digits (n / 256) (n / 256)
digits_step zero l = absurd (omega arith)
digits_step (suc n) l =
    digits_more n (suc n) l ∙ ap (λ (z : Bytes). suc n % 256 ∷ z) (digits-bound n (suc n / 256) (suc n / 256) (omega arith) (omega arith))

-- ---- a number is written in so many bytes, the least significant first

write-one : (n : ℕ) → 1 ≤ n → n < 128 → write (pos n) ≡ n ∷ []
unfolding write signed
write-one n l h =
    let low : n % 256 ≡ n = omega arith in
    let high : n / 256 ≡ 0 = omega arith in
    rw (digits_step n l, low, high, digits-none 0, lt-ltb n 128 h)

write-over : (n : ℕ) → 128 ≤ n → n < 256 → write (pos n) ≡ n ∷ 0 ∷ []
unfolding write signed
write-over n l h =
    let low : n % 256 ≡ n = omega arith in
    let high : n / 256 ≡ 0 = omega arith in
    rw (digits_step n (omega arith), low, high, digits-none 0, le-ltb n 128 l)

write_step : (n : ℕ) → 256 ≤ n → write (pos n) ≡ n % 256 ∷ write (pos (n / 256))
unfolding write signed
write_step n l = rw (digits_step n (omega arith), digits_step (n / 256) (omega arith))

write-1 : (n : ℕ) → 1 ≤ n → n < 0x80 → write (pos n) ≡ bytes_of 1 n
unfolding bytes_of
write-1 n l h = let low : n % 256 ≡ n = omega arith in rw low (write-one n l h)

write-2 : (n : ℕ) → 0x80 ≤ n → n < 0x8000 → write (pos n) ≡ bytes_of 2 n
unfolding bytes_of
write-2 n l h = go (ltb n 256) refl
  where
    go : (b : Bool) → ltb n 256 ≡ b → write (pos n) ≡ n % 256 ∷ n / 256 % 256 ∷ []
    go true e =
        let small = ltb-true n 256 e in
        let low : n % 256 ≡ n = omega arith in
        let high : n / 256 % 256 ≡ 0 = omega arith in
        rw (low, high) (write-over n l small)
    go false e =
        let large = ltb-false n 256 e in
        write_step n large ∙ ap (λ (z : Bytes). n % 256 ∷ z) (write-1 (n / 256) (omega arith) (omega arith))

write-3 : (n : ℕ) → 0x8000 ≤ n → n < 0x80_0000 → write (pos n) ≡ bytes_of 3 n
unfolding bytes_of
write-3 n l h = write_step n (omega arith) ∙ ap (λ (z : Bytes). n % 256 ∷ z) (write-2 (n / 256) (omega arith) (omega arith))

write-4 : (n : ℕ) → 0x80_0000 ≤ n → n < 0x8000_0000 → write (pos n) ≡ bytes_of 4 n
unfolding bytes_of
write-4 n l h = write_step n (omega arith) ∙ ap (λ (z : Bytes). n % 256 ∷ z) (write-3 (n / 256) (omega arith) (omega arith))

write-5 : (n : ℕ) → 0x8000_0000 ≤ n → n < 0x80_0000_0000 → write (pos n) ≡ bytes_of 5 n
unfolding bytes_of
write-5 n l h = write_step n (omega arith) ∙ ap (λ (z : Bytes). n % 256 ∷ z) (write-4 (n / 256) (omega arith) (omega arith))

-- ---- the ranges of the numbers that a tree holds

pub data Range (n : ℕ) : Type 0 where
  is-0 : n ≡ 0 → Range n
  to-16 : 1 ≤ n → n ≤ 16 → Range n
  in-1 : 16 < n → n < 0x80 → Range n
  in-2 : 0x80 ≤ n → n < 0x8000 → Range n
  in-3 : 0x8000 ≤ n → n < 0x80_0000 → Range n
  in-4 : 0x80_0000 ≤ n → n < 0x8000_0000 → Range n

pub range : (n : ℕ) → n < 0x8000_0000 → Range n
range n h = go (eqb n 0) (leb n 16) (ltb n 0x80) (ltb n 0x8000) (ltb n 0x80_0000) refl refl refl refl refl
  where
    go : (z s a b c : Bool) → eqb n 0 ≡ z → leb n 16 ≡ s → ltb n 0x80 ≡ a → ltb n 0x8000 ≡ b → ltb n 0x80_0000 ≡ c → Range n
    go true s a b c e f g i j = is-0 (eqb-true n 0 e)
    go false true a b c e f g i j = to-16 (omega (arith, eqb-false n 0 e)) (leb-true n 16 f)
    go false false true b c e f g i j = in-1 (leb-false n 16 f) (ltb-true n 0x80 g)
    go false false false true c e f g i j = in-2 (ltb-false n 0x80 g) (ltb-true n 0x8000 i)
    go false false false false true e f g i j = in-3 (ltb-false n 0x8000 i) (ltb-true n 0x80_0000 j)
    go false false false false false e f g i j = in-4 (ltb-false n 0x80_0000 j) h

pub write-length : (n : ℕ) → Range n → length (write (pos n)) ≤ 4
unfolding bytes_of write signed
write-length n (is-0 e) = rw (e, digits-none 0) (omega arith)
write-length n (to-16 l h) = rw (write-1 n l (omega arith)) (omega arith)
write-length n (in-1 l h) = rw (write-1 n (omega arith) h) (omega arith)
write-length n (in-2 l h) = rw (write-2 n l h) (omega arith)
write-length n (in-3 l h) = rw (write-3 n l h) (omega arith)
write-length n (in-4 l h) = rw (write-4 n l h) (omega arith)

-- ---- the push of a number: OP_0, OP_1 to OP_16, or how many bytes and those

pub number-0 : number_bytes 0 ≡ 0x00 ∷ []
unfolding push_bytes write signed digits
number-0 = refl

pub number_small : (n : ℕ) → 1 ≤ n → n ≤ 16 → number_bytes n ≡ (0x50 + n) ∷ []
unfolding push_bytes
number_small n l h = rw (write-one n l (omega arith), le-leb 1 n l, le-leb n 16 h)

pub number-1 : (n : ℕ) → 16 < n → n < 0x80 → number_bytes n ≡ 1 ∷ bytes_of 1 n
unfolding push_bytes bytes_of
number-1 n l h =
    let low : n % 256 ≡ n = omega arith in
    rw (write-one n (omega arith) h, le-leb 1 n (omega arith), lt-leb n 16 l, ne_eqb n 0x81 (λ e. omega arith), low)

pub number-2 : (n : ℕ) → 0x80 ≤ n → n < 0x8000 → number_bytes n ≡ 2 ∷ bytes_of 2 n
unfolding push_bytes bytes_of
number-2 n l h = ap push_bytes (write-2 n l h)

pub number-3 : (n : ℕ) → 0x8000 ≤ n → n < 0x80_0000 → number_bytes n ≡ 3 ∷ bytes_of 3 n
unfolding push_bytes bytes_of
number-3 n l h = ap push_bytes (write-3 n l h)

pub number-4 : (n : ℕ) → 0x80_0000 ≤ n → n < 0x8000_0000 → number_bytes n ≡ 4 ∷ bytes_of 4 n
unfolding push_bytes bytes_of
number-4 n l h = ap push_bytes (write-4 n l h)

pub number-5 : (n : ℕ) → 0x8000_0000 ≤ n → n < 0x80_0000_0000 → number_bytes n ≡ 5 ∷ bytes_of 5 n
unfolding push_bytes bytes_of
number-5 n l h = ap push_bytes (write-5 n l h)

-- ---- the push of an entry: its size, then the entry

pub push-long : (x : Bytes) → 2 ≤ length x → push_bytes x ≡ length x ∷ x
unfolding push_bytes
push-long [] l = absurd (omega arith)
push-long (b ∷ []) l = absurd (omega arith)
push-long (b ∷ c ∷ bs) l = refl

pub entry_length : (size : ℕ) (table : Bytes) (i : ℕ) → whole size table i ≡ true → length (entry size table i) ≡ size
entry_length size table i e =
    let room = leb-true (suc i * size) (length table) e in
    omega (arith, length-take size (drop (i * size) table), length-drop (i * size) table)

pub push-entry : (size : ℕ) (table : Bytes) (i : ℕ) → 2 ≤ size → whole size table i ≡ true
    → push_bytes (entry size table i) ≡ size ∷ entry size table i
push-entry size table i l e =
    let n = entry_length size table i e in
    push-long (entry size table i) (omega arith) ∙ ap (λ (z : ℕ). z ∷ entry size table i) n

pub push-length : (size : ℕ) (table : Bytes) (i : ℕ) → 2 ≤ size → whole size table i ≡ true → length (push_bytes (entry size table i)) ≡ suc size
push-length size table i l e = rw (push-entry size table i l e, entry_length size table i e)

pub long-key : (c : Context) → 2 ≤ key_size c
long-key Segwitv0 = omega arith
long-key Tap = omega arith

pub long-hash : (kind : HashKind) → 2 ≤ hash_size kind
long-hash Sha256 = omega arith
long-hash Hash256 = omega arith
long-hash Ripemd160 = omega arith
long-hash Hash160 = omega arith

pub push-key : (c : Context) (t : Tables) (i : ℕ) → has_key c t i ≡ true → push_bytes (key c t i) ≡ key_size c ∷ key c t i
push-key c t i e = push-entry (key_size c) t.keys i (long-key c) e

pub push-key_hash : (t : Tables) (i : ℕ) → has_key_hash t i ≡ true → push_bytes (key_hash t i) ≡ key_hash_size ∷ key_hash t i
push-key_hash t i e = push-entry key_hash_size t.key_hashes i (omega arith) e

pub push-hash : (t : Tables) (kind : HashKind) (i : ℕ) → has_hash t kind i ≡ true → push_bytes (hash t kind i) ≡ hash_size kind ∷ hash t kind i
push-hash t kind i e = push-entry (hash_size kind) (hash_table kind t) i (long-hash kind) e
