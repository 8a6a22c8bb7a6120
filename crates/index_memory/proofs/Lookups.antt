-- An index is compared byte by byte, and records are asked one by one whether they hold a byte. Assumes nothing.
use Prim.Native.Nat.{ℕ, ◌+◌, ◌-◌, ◌≤◌, ◌<◌}
use mathlib.Core.Bool.{Bool, true, false, ◌&&◌, false≢true}
use mathlib.Core.List.{List}
use mathlib.Core.Path.{◌≡◌, refl, sym, ap, ◌∙◌}
use native.Mathlib.Omega.{arith}
use borrow.Author.Tests.{le-leb, lt-leb, lt-ltb, le-ltb, ltb-true, ltb-false, eqb-true, eqb-false}
use lib.Dec.{eqb, leb, ltb}
use lib.ListN.{length, get_or}
use lib.Seq.{ext_get_or}
use Rattle.index_memory.specs.Memory.{size_in, first_in}
use Rattle.index_memory.specs.Looking.{Compared, holds_in}

-- ---- comparing

module _ (given index : List ℕ) where
  not-true : {P : Type 0} → ◌≡◌ {A = Bool} false true → P
  not-true e = absurd (false≢true e)

  pub other_length : (length given ≡ length index → ⊥) → Compared given index false
  other_length h = record { yes = λ e. not-true e; no = λ e s. h (ap length s) }

  pub other_byte : (j : ℕ) → (get_or given j 0 ≡ get_or index j 0 → ⊥) → Compared given index false
  other_byte j h = record { yes = λ e. not-true e; no = λ e s. h (ap (λ (m : List ℕ). get_or m j 0) s) }

  pub all-bytes : length given ≡ length index → ((m : ℕ) → m < length given → get_or given m 0 ≡ get_or index m 0) → Compared given index true
  all-bytes l h = record { yes = λ e. ext_get_or 0 given index l h; no = λ e. not-true (sym e) }

-- the bytes before j agree
pub record SameTo (given index : List ℕ) (j : ℕ) : Type 0 where
  pub each : (m : ℕ) → m < j → get_or given m 0 ≡ get_or index m 0

pub same-begins : (given index : List ℕ) → SameTo given index 0
same-begins given index = record { each = λ m h. absurd (omega arith) }

pub same_more : {given index : List ℕ} {j : ℕ} → SameTo given index j → get_or given j 0 ≡ get_or index j 0 → SameTo given index (j + 1)
same_more {given} {index} {j} on e = record { each = λ m h. by-test m (eqb m j) refl h }
  where
    by-test : (m : ℕ) (b : Bool) → eqb m j ≡ b → m < j + 1 → get_or given m 0 ≡ get_or index m 0
    by-test m true b h =
        let same = eqb-true m j b in
        rw same e
    by-test m false b h = on.each m (omega (arith, eqb-false m j b))

-- ---- the range of a record

module _ (work : List ℕ) (i at : ℕ) where
  pub before-it : at < first_in work i → false ≡ holds_in work i at
  unfolding holds_in
  before-it h = rw (lt-leb (first_in work i) at h)

  pub in-range : {first size : ℕ} {r : Bool} → first ≡ first_in work i → size ≡ size_in work false i → first ≤ at → r ≡ ltb (at - first) size
      → r ≡ holds_in work i at
  unfolding holds_in
  in-range {first} {size} {r} e f h g =
      g ∙ by-test (ltb (at - first) size) refl
    where
      low : leb (first_in work i) at ≡ true
      low = le-leb (first_in work i) at (omega (arith, e))

      by-test : (b : Bool) → ltb (at - first) size ≡ b → b ≡ leb (first_in work i) at && ltb at (first_in work i + size_in work false i)
      by-test true b = rw (low, lt-ltb at (first_in work i + size_in work false i) (omega (arith, ltb-true (at - first) size b, e, f)))
      by-test false b = rw (low, le-ltb at (first_in work i + size_in work false i) (omega (arith, ltb-false (at - first) size b, e, f)))

-- ---- the first record that holds it

pub first-begins : (work : List ℕ) (at : ℕ) → (k : ℕ) → k < 0 → holds_in work k at ≡ false
first-begins work at k h = absurd (omega arith)

pub first_more : (work : List ℕ) (at i : ℕ) → ((k : ℕ) → k < i → holds_in work k at ≡ false) → holds_in work i at ≡ false → (k : ℕ) → k < i + 1 → holds_in work k at ≡ false
first_more work at i on e k h = by-test (eqb k i) refl
  where
    by-test : (b : Bool) → eqb k i ≡ b → holds_in work k at ≡ false
    by-test true b =
        let same = eqb-true k i b in
        rw same e
    by-test false b = on k (omega (arith, eqb-false k i b))
