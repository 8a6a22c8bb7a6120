-- Numbers in a row of bytes: where they are read, and a row of children as it grows. Assumes nothing.
use mathlib.Core.Path.{◌≡◌, refl, sym, ap}
use mathlib.Core.Bool.{Bool, true, false}
use mathlib.Core.List.{List, [], ◌∷◌, ◌++◌}
use Rattle.std.specs.Prelude.{Option, None, Some}
use Prim.Native.Nat.{ℕ, zero, suc, ◌+◌, ◌*◌, ◌-◌, ◌<◌, ◌≤◌}
use native.Mathlib.Numerals.{add-one}
use native.Mathlib.Omega.{arith}
use borrow.Author.Tests.{leb-true, leb-false, le-leb, lt-leb}
use lib.Dec.{leb}
use lib.ListN.{length, set, drop, replicate, length-append, length-drop}
use lib.Seq.{set-append_seam, append_snoc}
use Rattle.words.specs.Bytes.{le_at}
use Rattle.words.proofs.Bytes.{read-room}
use Rattle.records.specs.Numbers.{or_zero, u16, u16s, numbers_at}
use Rattle.records.specs.Answers.{padded}

-- ---- where a number is read

room_drop : (width n at : ℕ) → 0 < width → leb width (n - at) ≡ leb (at + width) n
room_drop width n at w = by-test (leb width (n - at)) refl
  where
    by-test : (t : Bool) → leb width (n - at) ≡ t → t ≡ leb (at + width) n
    by-test true e = sym (le-leb (at + width) n (omega (arith, leb-true width (n - at) e)))
    by-test false e = sym (lt-leb (at + width) n (omega (arith, leb-false width (n - at) e)))

-- a number at the beginning of what is left
pub u16-drop : (s : List ℕ) (at : ℕ) → u16 (drop at s) 0 ≡ u16 s at
unfolding le_at
u16-drop s at = rw (length-drop at s, room_drop 2 (length s) at (omega arith))

-- a number that is not zero is there
pub u16-room : (s : List ℕ) (at : ℕ) → 1 ≤ u16 s at → at + 2 ≤ length s
u16-room s at h = by_read (le_at 2 s at) refl h
  where
    by_read : (o : Option ℕ) → le_at 2 s at ≡ o → 1 ≤ or_zero o → at + 2 ≤ length s
    by_read (Some v) e h = read-room 2 s at e
    by_read None e h = absurd (omega arith)

-- ---- numbers in a row

pub length-u16s : (s : List ℕ) (at n : ℕ) → length (u16s s at n) ≡ n
unfolding u16s
length-u16s s at zero = refl
length-u16s s at (suc n) = ap suc (length-u16s s (at + 2) n)

pub length-numbers : (width : ℕ) (s : List ℕ) (at n : ℕ) → length (numbers_at width s at n) ≡ n
unfolding numbers_at
length-numbers width s at zero = refl
length-numbers width s at (suc n) = ap suc (length-numbers width s (at + width) n)

-- one more at the end
u16s-snoc : (s : List ℕ) (at n : ℕ) → u16s s at (suc n) ≡ u16s s at n ++ (u16 s (at + 2 * n) ∷ [])
unfolding u16s
u16s-snoc s at zero =
    let e : at + 2 * 0 ≡ at = omega arith in
    rw e
u16s-snoc s at (suc n) =
    let e : at + 2 * suc n ≡ at + 2 + 2 * n = omega arith in
    rw e (ap (λ (l : List ℕ). u16 s at ∷ l) (u16s-snoc s (at + 2) n))

-- the first zero of a padded row gives way to one more number
fill-place : (xs : List ℕ) (v : ℕ) → length xs < 16 → set (padded xs) (length xs) v ≡ padded (xs ++ (v ∷ []))
fill-place xs v h =
    let e : 16 - length xs ≡ suc (16 - (length xs + 1)) = omega arith in
    rw (e, length-append xs (v ∷ []), set-append_seam xs 0 (replicate (16 - (length xs + 1)) 0) v)
    (sym (append_snoc xs v (replicate (16 - (length xs + 1)) 0)))

pub next-child : (s : List ℕ) (at i : ℕ) → i < 16 → set (padded (u16s s at i)) i (u16 s (at + 2 * i)) ≡ padded (u16s s at (i + 1))
next-child s at i h = rw (add-one, u16s-snoc s at i) (at_length i (length-u16s s at i) h)
  where
    at_length : (j : ℕ) → length (u16s s at i) ≡ j → j < 16
        → set (padded (u16s s at i)) j (u16 s (at + 2 * i)) ≡ padded (u16s s at i ++ (u16 s (at + 2 * i) ∷ []))
    at_length j e h = rw (← e) (fill-place (u16s s at i) (u16 s (at + 2 * i)) (omega arith))
