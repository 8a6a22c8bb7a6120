-- The bytes of words: one of them by its number, and where those of a later word begin. Assumes nothing.
use mathlib.Core.Bool.{Bool, true, false}
use mathlib.Core.List.{List, [], ◌∷◌, ◌++◌, append_assoc}
use mathlib.Core.Path.{◌≡◌, refl, sym, ap, subst, ◌∙◌}
use Prim.Native.Nat.{ℕ, zero, suc, ◌+◌, ◌*◌, ◌-◌, ◌/◌, ◌%◌, ◌^◌, ◌<◌, ◌≤◌}
use native.Mathlib.Nat.{div-add-mod', pow-suc}
use native.Mathlib.Numerals.{add-one}
use native.Mathlib.Omega.{arith}
use borrow.Author.Tests.{leb-true, leb-false}
use lib.Dec.{leb}
use lib.ListN.{length, get_or, set, take, drop, length-append, length-drop, length-set, get_or-append}
use lib.Seq.{drop-append-add, get_or-append-add, get_or-drop, drop-cons, take-suc, take-suc-set, set_at, length-take-le}
use Rattle.memory.specs.Layout.{work_words}
use Rattle.words.specs.Bytes.{little, bytes_of}
use Rattle.words.proofs.Bytes.{length-bytes}
use Rattle.chosen.specs.Form.{tree_bytes, bytes_in, room_in}

pub length-in : (words : List ℕ) → length (bytes_in words) ≡ 8 * length words
unfolding bytes_in
length-in [] = omega arith
length-in (w ∷ words) =
    omega (arith, length-append (bytes_of 8 w) (bytes_in words), length-bytes 8 w, length-in words)

pub room-long : (m : List ℕ) → length (room_in m) ≡ 8 * (length m - 1)
unfolding room_in
room-long m = omega (arith, length-in (drop 1 m), length-drop 1 m)

drop-none : (n : ℕ) → drop {A = ℕ} n [] ≡ []
drop-none zero = refl
drop-none (suc n) = refl

-- ---- one byte of a word

pub byte_of : (w r : ℕ) → r < 8 → get_or (bytes_of 8 w) r 0 ≡ w / 2 ^ (8 * r) % 256
unfolding bytes_of
byte_of w zero h = omega arith
byte_of w (suc zero) h = omega arith
byte_of w (suc (suc zero)) h = omega arith
byte_of w (suc (suc (suc zero))) h = omega arith
byte_of w (suc (suc (suc (suc zero)))) h = omega arith
byte_of w (suc (suc (suc (suc (suc zero))))) h = omega arith
byte_of w (suc (suc (suc (suc (suc (suc zero)))))) h = omega arith
byte_of w (suc (suc (suc (suc (suc (suc (suc zero))))))) h = omega arith
byte_of w (suc (suc (suc (suc (suc (suc (suc (suc r)))))))) h = absurd (omega arith)

-- ---- one byte of some words

pub byte-in : (words : List ℕ) (i : ℕ) → i < 8 * length words → get_or (bytes_in words) i 0 ≡ get_or words (i / 8) 0 / 2 ^ (8 * (i % 8)) % 256
unfolding bytes_in
byte-in [] i h = absurd (omega arith)
byte-in (w ∷ words) i h = by_place (λ k l. byte-in words k l) (leb i 7) refl
  where
    long : length (bytes_of 8 w) ≡ 8
    long = length-bytes 8 w

    by_place : ((k : ℕ) → k < 8 * length words → get_or (bytes_in words) k 0 ≡ get_or words (k / 8) 0 / 2 ^ (8 * (k % 8)) % 256)
        → (t : Bool) → leb i 7 ≡ t → get_or (bytes_of 8 w ++ bytes_in words) i 0 ≡ get_or (w ∷ words) (i / 8) 0 / 2 ^ (8 * (i % 8)) % 256
    by_place others true b =
        let l = leb-true i 7 b in
        let q : i / 8 ≡ 0 = omega arith in
        let r : i % 8 ≡ i = omega arith in
        get_or-append (bytes_of 8 w) (bytes_in words) 0 i (omega (arith, long)) ∙ rw (q, r) (byte_of w i (omega arith))
    by_place others false b =
        let l = leb-false i 7 b in
        let k = i - 8 in
        let e : i ≡ length (bytes_of 8 w) + k = omega (arith, long) in
        let q : i / 8 ≡ suc (k / 8) = omega arith in
        let r : i % 8 ≡ k % 8 = omega arith in
        ap (λ (j : ℕ). get_or (bytes_of 8 w ++ bytes_in words) j 0) e
        ∙ get_or-append-add (bytes_of 8 w) (bytes_in words) k 0
        ∙ rw (q, r) (others k (omega arith))

-- the bytes of the words from one on
pub drop-in : (q : ℕ) (words : List ℕ) → drop (8 * q) (bytes_in words) ≡ bytes_in (drop q words)
unfolding bytes_in
drop-in zero words = refl
drop-in (suc q) [] = drop-none (8 * suc q)
drop-in (suc q) (w ∷ words) =
    let e : 8 * suc q ≡ length (bytes_of 8 w) + 8 * q = omega (arith, length-bytes 8 w) in
    ap (λ (j : ℕ). drop j (bytes_of 8 w ++ bytes_in words)) e ∙ drop-append-add (bytes_of 8 w) (bytes_in words) (8 * q) ∙ drop-in q words

-- ---- the bytes behind word 0

module _ (m : List ℕ) (long : length m ≡ work_words) where
  pub room_whole : length (room_in m) ≡ tree_bytes
  room_whole = omega (arith, room-long m)

  pub room-byte : (i : ℕ) → i < tree_bytes → get_or (room_in m) i 0 ≡ get_or m (1 + i / 8) 0 / 2 ^ (8 * (i % 8)) % 256
  unfolding room_in
  room-byte i h =
      byte-in (drop 1 m) i (omega (arith, length-drop 1 m))
      ∙ ap (λ (w : ℕ). w / 2 ^ (8 * (i % 8)) % 256) (get_or-drop 1 m (i / 8) 0)

  -- one byte more is copied
  pub copied_more : (at : ℕ) (bytes : List ℕ) (j k : ℕ) → at + j ≡ k → k < tree_bytes → j < length bytes → take j bytes ≡ take j (drop at (room_in m))
      → (b : ℕ) → b ≡ get_or (room_in m) k 0 → take (j + 1) (set bytes j b) ≡ take (j + 1) (drop at (room_in m))
  copied_more at bytes j k here room lt inv b is =
      let there : j < length (drop at (room_in m)) = omega (arith, room_whole, length-drop at (room_in m)) in
      rw (add-one j, take-suc-set bytes j b lt, take-suc (drop at (room_in m)) j 0 there, get_or-drop at (room_in m) j 0, here, is, inv)

-- ---- the number that a word's bytes write

pub little-bytes : (width v : ℕ) → v < 256 ^ width → little (bytes_of width v) ≡ v
unfolding little bytes_of
little-bytes zero v h = omega arith
little-bytes (suc width) v h =
    let e : v / 256 * 256 + v % 256 ≡ v = div-add-mod' v 256 in
    rw (little-bytes width (v / 256) (next_fits width v h)) (omega arith)
  where
    next_fits : (width v : ℕ) → v < 256 ^ suc width → v / 256 < 256 ^ width
    next_fits width v h =
        let p : 256 ^ suc width ≡ 256 ^ width * 256 = pow-suc 256 width in
        omega arith
