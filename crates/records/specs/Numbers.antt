-- The numbers that stand in a record, and their limits: document 01, "Records", and document 02, R-3. Assumes nothing.
use Rattle.std.specs.Prelude.{Bool, ◌&&◌, List, [], ◌∷◌, ℕ, zero, suc, ◌+◌, leb, Option, None, Some}
use Rattle.words.specs.Bytes.{le_at}

-- a lock holds 1 to 2,147,483,647
abbrev pub max_lock : ℕ
max_lock = 2147483647

-- a threshold has at most 16 children or keys
abbrev pub max_count : ℕ
max_count = 16

abbrev pub or_zero : Option ℕ → ℕ
or_zero (Some v) = v
or_zero None = 0

-- the number of so many bytes that begins at a byte, 0 where its bytes are not there; a u16, a u32 and a u64
abbrev pub number_at : (width : ℕ) → List ℕ → ℕ → ℕ
number_at width s at = or_zero (le_at width s at)

abbrev pub u16 : List ℕ → ℕ → ℕ
u16 s at = number_at 2 s at

abbrev pub u32 : List ℕ → ℕ → ℕ
u32 s at = number_at 4 s at

abbrev pub u64 : List ℕ → ℕ → ℕ
u64 s at = number_at 8 s at

-- so many u16 in a row, so many numbers of a width
unfoldable pub u16s : List ℕ → (at n : ℕ) → List ℕ
u16s s at zero = []
u16s s at (suc n) = u16 s at ∷ u16s s (at + 2) n

unfoldable pub numbers_at : (width : ℕ) → List ℕ → (at n : ℕ) → List ℕ
numbers_at width s at zero = []
numbers_at width s at (suc n) = number_at width s at ∷ numbers_at width s (at + width) n

abbrev pub between : (low high n : ℕ) → Bool
between low high n = leb low n && leb n high
