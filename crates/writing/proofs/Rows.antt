-- Numbers written one after another are read back, over the width of a number. Assumes nothing.
use mathlib.Core.Path.{◌≡◌, refl, ◌∙◌}
use mathlib.Core.Bool.{true}
use mathlib.Core.List.{List, [], ◌∷◌, ◌++◌, append_assoc}
use Rattle.std.specs.Prelude.{Some}
use Prim.Native.Nat.{ℕ, suc, ◌+◌, ◌*◌, ◌^◌, ◌<◌, ◌≤◌}
use native.Mathlib.Omega.{arith}
use borrow.Author.Tests.{le-leb}
use lib.ListN.{length, drop, length-append}
use lib.Seq.{sets-eq, take_at, drop_at}
use Rattle.words.specs.Bytes.{bytes_of, has_bytes, le_at, put_le}
use Rattle.words.proofs.Bytes.{length-bytes, written, read_back}
use Rattle.records.specs.Numbers.{or_zero, u16s, numbers_at}
use Rattle.writing.specs.Writing.{in_row}
use Rattle.writing.specs.WellFormed.{AllBelow}

module _ (width v : ℕ) (p q : List ℕ) (at : ℕ) (e : length p ≡ at) where
  -- a list in which a number is written
  abbrev holding : List ℕ
  holding = p ++ (bytes_of width v ++ q)

  number-room : has_bytes width holding at ≡ true
  number-room =
      le-leb (at + width) (length holding)
      (omega (arith, length-append p (bytes_of width v ++ q), length-append (bytes_of width v) q, length-bytes width v))

  -- writing what is there changes nothing
  number-there : put_le width holding at v ≡ holding
  number-there =
      let len = length-bytes width v in
      let room : at + length (bytes_of width v) ≤ length holding =
      omega (arith, length-append p (bytes_of width v ++ q), length-append (bytes_of width v) q) in
      let seam : length (p ++ bytes_of width v) ≡ at + length (bytes_of width v) = omega (arith, length-append p (bytes_of width v)) in
      let past : drop (at + length (bytes_of width v)) holding ≡ q =
      rw (← append_assoc p (bytes_of width v) q) (drop_at (p ++ bytes_of width v) q (at + length (bytes_of width v)) seam) in
      written width holding at v number-room ∙ sets-eq (bytes_of width v) holding at room
      ∙ rw (past, take_at p (bytes_of width v ++ q) at e) (append_assoc p (bytes_of width v) q)

  pub number-at : v < 256 ^ width → le_at width (p ++ (bytes_of width v ++ q)) at ≡ Some v
  number-at f = rw number-there at (read_back width holding at v number-room f)

pub length-row : (width : ℕ) (ns : List ℕ) → length (in_row width ns) ≡ width * length ns
unfolding in_row
length-row width [] = omega arith
length-row width (n ∷ ns) =
    rw (length-append (bytes_of width n) (in_row width ns), length-bytes width n, length-row width ns) (omega arith)

-- `row` reads so many numbers of the width
module _ (width : ℕ) (row : List ℕ → (at n : ℕ) → List ℕ)
    (row-none : (s : List ℕ) (at : ℕ) → row s at 0 ≡ [])
    (row_next : (s : List ℕ) (at n : ℕ) → row s at (suc n) ≡ or_zero (le_at width s at) ∷ row s (at + width) n) where
  row_back : (ns p q : List ℕ) (at : ℕ) → length p ≡ at → AllBelow (256 ^ width) ns
      → row (p ++ (in_row width ns ++ q)) at (length ns) ≡ ns
  unfolding in_row AllBelow
  row_back [] p q at e below = row-none (p ++ q) at
  row_back (n ∷ ns) p q at e below =
      let s = p ++ (bytes_of width n ++ (in_row width ns ++ q)) in
      let seam : length (p ++ bytes_of width n) ≡ at + width = omega (arith, length-append p (bytes_of width n), length-bytes width n) in
      let others : row s (at + width) (length ns) ≡ ns =
      rw (append_assoc p (bytes_of width n) (in_row width ns ++ q)) at (row_back ns (p ++ bytes_of width n) q (at + width) seam below.1) in
      rw (append_assoc (bytes_of width n) (in_row width ns) q)
      (row_next s at (length ns) ∙ rw (number-at width n p (in_row width ns ++ q) at e below.0, others))

pub u16s-back : (ns p q : List ℕ) (at : ℕ) → length p ≡ at → AllBelow 65536 ns → u16s (p ++ (in_row 2 ns ++ q)) at (length ns) ≡ ns
unfolding u16s
u16s-back = row_back 2 u16s (λ s at. refl) (λ s at n. refl)

pub numbers-back : (width : ℕ) (ns p q : List ℕ) (at : ℕ) → length p ≡ at → AllBelow (256 ^ width) ns
    → numbers_at width (p ++ (in_row width ns ++ q)) at (length ns) ≡ ns
unfolding numbers_at
numbers-back width = row_back width (numbers_at width) (λ s at. refl) (λ s at n. refl)
