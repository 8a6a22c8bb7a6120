-- Laws on little-endian numbers, over the width. Crates above cite `found`, `missing`, `read-room`, `length-put`, `read_back` and
-- `read-elsewhere`. Assumes nothing.
use mathlib.Core.Path.{◌≡◌, refl, sym, ap, subst, ◌∙◌}
use mathlib.Core.Bool.{Bool, true, false}
use mathlib.Core.List.{List, [], ◌∷◌, ◌++◌, append_assoc}
use mathlib.Core.Logic.{◌⊎◌, inl, inr, ⊎_elim}
use Rattle.std.specs.Prelude.{None, Some}
use Prim.Native.Nat.{ℕ, zero, suc, ◌+◌, ◌*◌, ◌/◌, ◌%◌, ◌^◌, ◌-◌, ◌<◌, ◌≤◌}
use native.Mathlib.Nat.{div-add-mod', pow-suc}
use native.Mathlib.Numerals.{add-one}
use native.Mathlib.Omega.{arith}
use borrow.Author.Tests.{leb-true, leb-false, le-leb, lt-leb}
use lib.Dec.{leb}
use lib.ListN.{length, get_or, set, take, drop}
use lib.Seq.{sets, length-sets, sets-eq, drop_at, take_at, length-take-le}
use Rattle.words.specs.Bytes.{little, bytes_of, has_bytes, when_read, le_at, when_written, put_le}
use Rattle.words.proofs.Stores.{sets_below, sets-above, sets-append}

-- ---- whether the bytes are there

-- a place is tested by what stands before the last `width` bytes
pub room-before : (width n at : ℕ) → width ≤ n → leb at (n - width) ≡ leb (at + width) n
room-before width n at h = by-test (leb at (n - width)) refl
  where
    by-test : (t : Bool) → leb at (n - width) ≡ t → t ≡ leb (at + width) n
    by-test true e = sym (le-leb (at + width) n (omega (arith, leb-true at (n - width) e)))
    by-test false e = sym (lt-leb (at + width) n (omega (arith, leb-false at (n - width) e)))

pub room : (width : ℕ) (s : List ℕ) (at : ℕ) → has_bytes width s at ≡ true → at + width ≤ length s
room width s at h = leb-true (at + width) (length s) h

-- ---- reading

pub found : (width : ℕ) (s : List ℕ) (at : ℕ) → has_bytes width s at ≡ true → le_at width s at ≡ Some (little (take width (drop at s)))
unfolding le_at
found width s at h = rw h

pub missing : (width : ℕ) (s : List ℕ) (at : ℕ) → has_bytes width s at ≡ false → le_at width s at ≡ None
unfolding le_at
missing width s at h = rw h

-- where a number is read, its bytes are there
pub read-room : (width : ℕ) (s : List ℕ) (at : ℕ) {v : ℕ} → le_at width s at ≡ Some v → at + width ≤ length s
unfolding le_at
read-room width s at {v} e = room width s at (by-room (has_bytes width s at) e)
  where
    by-room : (t : Bool) → when_read t (little (take width (drop at s))) ≡ Some v → t ≡ true
    by-room true e = refl
    by-room false e = cc

little-suc : (width : ℕ) (s : List ℕ) (at : ℕ)
    → little (take (suc width) (drop at s)) ≡ get_or s at 0 + little (take width (drop (suc at) s)) * 256
unfolding little
little-suc zero [] zero = refl
little-suc zero [] (suc at) = refl
little-suc (suc width) [] zero = refl
little-suc (suc width) [] (suc at) = refl
little-suc width (b ∷ s) zero = refl
little-suc width (b ∷ s) (suc at) = little-suc width s at

-- the first byte, and the number of the others
pub little-next : (width : ℕ) (s : List ℕ) (at : ℕ)
    → little (take (suc width) (drop at s)) ≡ get_or s at 0 + little (take width (drop (at + 1) s)) * 256
little-next width s at = rw add-one (little-suc width s at)

pub found-2 : (s : List ℕ) (at : ℕ) → has_bytes 2 s at ≡ true → le_at 2 s at ≡ Some (get_or s at 0 + get_or s (at + 1) 0 * 256)
unfolding little
found-2 s at h = found 2 s at h ∙ ap Some (little-next 1 s at ∙ rw (little-next 0 s (at + 1)) (omega arith))

pub found-4 : (s : List ℕ) (at : ℕ) → has_bytes 4 s at ≡ true
    → le_at 4 s at ≡ Some (get_or s at 0 + get_or s (at + 1) 0 * 256 + get_or s (at + 2) 0 * 65536 + get_or s (at + 3) 0 * 16777216)
unfolding little
found-4 s at h =
    let e₂ : at + 1 + 1 ≡ at + 2 = omega arith in
    let e₃ : at + 2 + 1 ≡ at + 3 = omega arith in
    found 4 s at h
    ∙ ap Some (rw (little-next 3 s at, little-next 2 s (at + 1), e₂, little-next 1 s (at + 2), e₃, little-next 0 s (at + 3)) (omega arith))

-- eight bytes are two numbers of four
little-eight : (s : List ℕ) (at : ℕ)
    → little (take 8 (drop at s)) ≡ little (take 4 (drop at s)) + little (take 4 (drop (at + 4) s)) * 4294967296
unfolding little
little-eight s at =
    let e₂ : at + 1 + 1 ≡ at + 2 = omega arith in
    let e₃ : at + 2 + 1 ≡ at + 3 = omega arith in
    let e₄ : at + 3 + 1 ≡ at + 4 = omega arith in
    rw (
      little-next 7 s at,
      little-next 6 s (at + 1),
      e₂,
      little-next 5 s (at + 2),
      e₃,
      little-next 4 s (at + 3),
      e₄,
      little-next 3 s at,
      little-next 2 s (at + 1),
      e₂,
      little-next 1 s (at + 2),
      e₃,
      little-next 0 s (at + 3),
    ) (omega arith)

at_some : (width : ℕ) (s : List ℕ) (at : ℕ) {v : ℕ} → le_at width s at ≡ Some v → v ≡ little (take width (drop at s))
at_some width s at e =
    let there = le-leb (at + width) (length s) (read-room width s at e) in
    some_is (sym e ∙ found width s at there)
  where
    some_is : {v w : ℕ} → Some v ≡ Some w → v ≡ w
    some_is e = cc

pub found-8 : (s : List ℕ) (at : ℕ) {low high : ℕ} → le_at 4 s at ≡ Some low → le_at 4 s (at + 4) ≡ Some high
    → le_at 8 s at ≡ Some (low + high * 4294967296)
found-8 s at l h =
    let room = read-room 4 s (at + 4) h in
    found 8 s at (le-leb (at + 8) (length s) (omega arith)) ∙ ap Some (rw (at_some 4 s at l, at_some 4 s (at + 4) h) (little-eight s at))

-- where four of them are missing, so are all eight
pub missing-low : (s : List ℕ) (at : ℕ) → le_at 4 s at ≡ None → le_at 8 s at ≡ None
missing-low s at e = by-room (has_bytes 8 s at) refl
  where
    by-room : (t : Bool) → has_bytes 8 s at ≡ t → le_at 8 s at ≡ None
    by-room true h =
        let there = found 4 s at (le-leb (at + 4) (length s) (omega (arith, room 8 s at h))) in
        cc
    by-room false h = missing 8 s at h

pub missing-high : (s : List ℕ) (at : ℕ) → le_at 4 s (at + 4) ≡ None → le_at 8 s at ≡ None
missing-high s at e = by-room (has_bytes 8 s at) refl
  where
    by-room : (t : Bool) → has_bytes 8 s at ≡ t → le_at 8 s at ≡ None
    by-room true h =
        let there = found 4 s (at + 4) (le-leb (at + 4 + 4) (length s) (omega (arith, room 8 s at h))) in
        cc
    by-room false h = missing 8 s at h

-- ---- writing

pub written : (width : ℕ) (s : List ℕ) (at v : ℕ) → has_bytes width s at ≡ true → put_le width s at v ≡ sets s at (bytes_of width v)
unfolding put_le
written width s at v h = rw h

pub unwritten : (width : ℕ) (s : List ℕ) (at v : ℕ) → has_bytes width s at ≡ false → put_le width s at v ≡ s
unfolding put_le
unwritten width s at v h = rw h

pub length-put : (width : ℕ) (s : List ℕ) (at v : ℕ) → length (put_le width s at v) ≡ length s
unfolding put_le
length-put width s at v = by-room (has_bytes width s at)
  where
    by-room : (room : Bool) → length (when_written room (sets s at (bytes_of width v)) s) ≡ length s
    by-room true = length-sets s at (bytes_of width v)
    by-room false = refl

pub length-bytes : (width v : ℕ) → length (bytes_of width v) ≡ width
unfolding bytes_of
length-bytes zero v = refl
length-bytes (suc width) v = ap suc (length-bytes width (v / 256))

pub written_2 : (s : List ℕ) (at v : ℕ) → has_bytes 2 s at ≡ true → v < 65536
    → set (set s at (v % 256)) (at + 1) (v / 256) ≡ put_le 2 s at v
unfolding bytes_of
written_2 s at v h f =
    let e : v / 256 ≡ v / 256 % 256 = omega arith in
    rw (add-one, e) (sym (written 2 s at v h))

pub written_4 : (s : List ℕ) (at v : ℕ) → has_bytes 4 s at ≡ true → v < 4294967296
    → set (set (set (set s at (v % 256)) (at + 1) (v / 256 % 256)) (at + 2) (v / 65536 % 256)) (at + 3) (v / 16777216) ≡ put_le 4 s at v
unfolding bytes_of
written_4 s at v h f =
    let e₁ : at + 1 ≡ suc at = omega arith in
    let e₂ : at + 2 ≡ suc (suc at) = omega arith in
    let e₃ : at + 3 ≡ suc (suc (suc at)) = omega arith in
    let b₂ : v / 65536 % 256 ≡ v / 256 / 256 % 256 = omega arith in
    let b₃ : v / 16777216 ≡ v / 256 / 256 / 256 % 256 = omega arith in
    rw (e₁, e₂, e₃, b₂, b₃) (sym (written 4 s at v h))

-- eight bytes are written as two numbers of four
bytes-eight : (a b : ℕ) → a < 4294967296 → bytes_of 8 (a + b * 4294967296) ≡ bytes_of 4 a ++ bytes_of 4 b
unfolding bytes_of
bytes-eight a b f =
    let r₀ : (a + b * 4294967296) % 256 ≡ a % 256 = omega arith in
    let q₀ : (a + b * 4294967296) / 256 ≡ a / 256 + b * 16777216 = omega arith in
    let r₁ : (a / 256 + b * 16777216) % 256 ≡ a / 256 % 256 = omega arith in
    let q₁ : (a / 256 + b * 16777216) / 256 ≡ a / 256 / 256 + b * 65536 = omega arith in
    let r₂ : (a / 256 / 256 + b * 65536) % 256 ≡ a / 256 / 256 % 256 = omega arith in
    let q₂ : (a / 256 / 256 + b * 65536) / 256 ≡ a / 256 / 256 / 256 + b * 256 = omega arith in
    let r₃ : (a / 256 / 256 / 256 + b * 256) % 256 ≡ a / 256 / 256 / 256 % 256 = omega arith in
    let q₃ : (a / 256 / 256 / 256 + b * 256) / 256 ≡ b = omega arith in
    rw (r₀, q₀, r₁, q₁, r₂, q₂, r₃, q₃)

pub written_8 : (s : List ℕ) (at v : ℕ) → has_bytes 8 s at ≡ true → put_le 4 (put_le 4 s at (v % 4294967296)) (at + 4) (v / 4294967296) ≡ put_le 8 s at v
written_8 s at v h =
    let fits = room 8 s at h in
    let low : has_bytes 4 s at ≡ true = le-leb (at + 4) (length s) (omega arith) in
    let first = put_le 4 s at (v % 4294967296) in
    let long = length-put 4 s at (v % 4294967296) in
    let high : has_bytes 4 first (at + 4) ≡ true = le-leb (at + 4 + 4) (length first) (omega arith) in
    written 4 first (at + 4) (v / 4294967296) high
    ∙ ap (λ (t : List ℕ). sets t (at + 4) (bytes_of 4 (v / 4294967296))) (written 4 s at (v % 4294967296) low)
    ∙ ap (λ (n : ℕ). sets (sets s at (bytes_of 4 (v % 4294967296))) (at + n) (bytes_of 4 (v / 4294967296)))
    (sym (length-bytes 4 (v % 4294967296)))
    ∙ sym (sets-append (bytes_of 4 (v % 4294967296)) (bytes_of 4 (v / 4294967296)) s at)
    ∙ ap (sets s at) (sym (bytes-eight (v % 4294967296) (v / 4294967296) (omega arith)))
    ∙ ap (λ (n : ℕ). sets s at (bytes_of 8 n)) (omega (arith, div-add-mod' v 4294967296))
    ∙ sym (written 8 s at v h)

-- ---- a number written and read

little-bytes : (width v : ℕ) → v < 256 ^ width → little (bytes_of width v) ≡ v
unfolding little bytes_of
little-bytes zero v h = omega arith
little-bytes (suc width) v h =
    let e : v / 256 * 256 + v % 256 ≡ v = div-add-mod' v 256 in
    rw (little-bytes width (v / 256) (next_fits width v h)) (omega arith)
  where
    next_fits : (width v : ℕ) → v < 256 ^ suc width → v / 256 < 256 ^ width
    next_fits width v h =
        let p : 256 ^ suc width ≡ 256 ^ width * 256 = pow-suc 256 width in
        omega arith

-- the elements just stored
taken-sets : (vs s : List ℕ) (at : ℕ) → at + length vs ≤ length s → take (length vs) (drop at (sets s at vs)) ≡ vs
taken-sets vs s at h =
    let front : length (take at s) ≡ at = length-take-le at s (omega arith) in
    rw (sets-eq vs s at h, append_assoc (take at s) vs (drop (at + length vs) s), drop_at (take at s) (vs ++ drop (at + length vs) s) at front)
    (take_at vs (drop (at + length vs) s) (length vs) refl)

-- a number that is written is read there
pub read_back : (width : ℕ) (s : List ℕ) (at v : ℕ) → has_bytes width s at ≡ true → v < 256 ^ width
    → le_at width (put_le width s at v) at ≡ Some v
read_back width s at v h f =
    let len = length-bytes width v in
    let h' : at + length (bytes_of width v) ≤ length s = rw len (room width s at h) in
    let fits : has_bytes width (put_le width s at v) at ≡ true = rw length-put h in
    found width (put_le width s at v) at fits
    ∙ ap Some (rw (
      written width s at v h,
      subst (λ (k : ℕ). take k (drop at (sets s at (bytes_of width v))) ≡ bytes_of width v) len
          (taken-sets (bytes_of width v) s at h'),
    ) (little-bytes width v f))

-- a byte elsewhere is as it was
pub put-apart : (width : ℕ) (s : List ℕ) (at v j : ℕ) → (j < at) ⊎ (at + width ≤ j) → get_or (put_le width s at v) j 0 ≡ get_or s j 0
unfolding put_le
put-apart width s at v j apart = by-room (has_bytes width s at)
  where
    len : length (bytes_of width v) ≡ width
    len = length-bytes width v

    by-room : (room : Bool) → get_or (when_written room (sets s at (bytes_of width v)) s) j 0 ≡ get_or s j 0
    by-room true =
        ⊎_elim (λ b. sets_below (bytes_of width v) s at j 0 b) (λ (a : at + width ≤ j). sets-above (bytes_of width v) s at j 0 (rw len a)) apart
    by-room false = refl

-- numbers read where two lists have the same bytes are the same
same-little : (width : ℕ) (s t : List ℕ) (at : ℕ) → ((j : ℕ) → at ≤ j → j < at + width → get_or s j 0 ≡ get_or t j 0)
    → little (take width (drop at s)) ≡ little (take width (drop at t))
same-little zero s t at same = refl
same-little (suc width) s t at same =
    rw (
      little-next width s at,
      little-next width t at,
      same at (omega arith) (omega arith),
      same-little width s t (at + 1) (λ j l u. same j (omega arith) (omega arith)),
    )

-- a number read elsewhere is as it was
pub read-elsewhere : (width : ℕ) (s : List ℕ) (at v : ℕ) (width' at' : ℕ) → (at' + width' ≤ at) ⊎ (at + width ≤ at')
    → le_at width' (put_le width s at v) at' ≡ le_at width' s at'
unfolding le_at
read-elsewhere width s at v width' at' apart =
    rw (length-put width s at v, same-little width' (put_le width s at v) s at' (λ j l u. put-apart width s at v j (byte-apart j l u)))
  where
    byte-apart : (j : ℕ) → at' ≤ j → j < at' + width' → (j < at) ⊎ (at + width ≤ j)
    byte-apart j l u = ⊎_elim (λ (b : at' + width' ≤ at). inl (omega arith)) (λ (a : at + width ≤ at'). inr (omega arith)) apart
