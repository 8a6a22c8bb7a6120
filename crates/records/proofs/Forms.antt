-- When a record of a threshold fits, by the tests in a row. Assumes nothing.
use mathlib.Core.Path.{◌≡◌, refl}
use mathlib.Core.Bool.{Bool, true, false, ◌&&◌}
use mathlib.Core.List.{List}
use Prim.Native.Nat.{ℕ, ◌+◌, ◌*◌, ◌<◌, ◌≤◌}
use native.Mathlib.Nat.{mul-le-mul}
use borrow.Author.Tests.{le-leb, lt-leb, leb-true}
use lib.Dec.{leb, eqb}
use lib.ListN.{length}
use Rattle.records.specs.Numbers.{u16, max_count}
use Rattle.records.specs.Payloads.{threshold_fits}

pub and_left : (a b : Bool) → a && b ≡ true → a ≡ true
and_left true b e = refl
and_left false b e = e

pub and_right : (a b : Bool) → a && b ≡ true → b ≡ true
and_right true b e = e
and_right false b e = cc

-- as many numbers as a threshold may have take few bytes
pub few_bytes : (width n : ℕ) → width ≤ 8 → n ≤ max_count → width * n ≤ 128
few_bytes width n w m = mul-le-mul w m

module _ (width : ℕ) (s : List ℕ) where
  pub no-k : u16 s 4 < 1 → threshold_fits width s ≡ false
  no-k h = rw (lt-leb 1 (u16 s 4) h)

  pub k-over-n : 1 ≤ u16 s 4 → u16 s 6 < u16 s 4 → threshold_fits width s ≡ false
  k-over-n l h = rw (le-leb 1 (u16 s 4) l, lt-leb (u16 s 4) (u16 s 6) h)

  pub n-over-most : 1 ≤ u16 s 4 → u16 s 4 ≤ u16 s 6 → max_count < u16 s 6 → threshold_fits width s ≡ false
  n-over-most l m h = rw (le-leb 1 (u16 s 4) l, le-leb (u16 s 4) (u16 s 6) m, lt-leb (u16 s 6) max_count h)

  pub by_length : 1 ≤ u16 s 4 → u16 s 4 ≤ u16 s 6 → u16 s 6 ≤ max_count → threshold_fits width s ≡ eqb (length s) (8 + width * u16 s 6)
  by_length l m h = rw (le-leb 1 (u16 s 4) l, le-leb (u16 s 4) (u16 s 6) m, le-leb (u16 s 6) max_count h)

  pub fits-bounds : threshold_fits width s ≡ true → (1 ≤ u16 s 4) × (u16 s 4 ≤ u16 s 6) × (u16 s 6 ≤ max_count)
  fits-bounds e =
      let low = leb 1 (u16 s 4) in
      let ordered = leb (u16 s 4) (u16 s 6) in
      let few = leb (u16 s 6) max_count in
      let three = and_left (low && ordered && few) (eqb (length s) (8 + width * u16 s 6)) e in
      let two = and_left (low && ordered) few three in (
        leb-true 1 (u16 s 4) (and_left low ordered two),
        leb-true (u16 s 4) (u16 s 6) (and_right low ordered two),
        leb-true (u16 s 6) max_count (and_right (low && ordered) few three),
      )
