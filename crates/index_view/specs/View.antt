-- What a viewer reads in the index of a tree: document 02, R-11. An entry is 16 bytes, record 0 first: the packed type, the height, the first byte and
-- the length of the record's fragment in the script, a u32 each. Assumes nothing.
use Rattle.std.specs.Prelude.{ℕ, zero, suc, ◌+◌, ◌-◌, ◌*◌, ◌/◌, Bool, ◌&&◌, cond, List, leb, ltb, length}
use Rattle.records.specs.Numbers.{u32}

abbrev pub count : (index : List ℕ) → ℕ
count index = length index / 16

abbrev pub type_in : (index : List ℕ) (i : ℕ) → ℕ
type_in index i = u32 index (16 * i)

abbrev pub height_in : (index : List ℕ) (i : ℕ) → ℕ
height_in index i = u32 index (16 * i + 4)

abbrev pub first_in : (index : List ℕ) (i : ℕ) → ℕ
first_in index i = u32 index (16 * i + 8)

abbrev pub length_in : (index : List ℕ) (i : ℕ) → ℕ
length_in index i = u32 index (16 * i + 12)

-- whether record i holds a byte of the script
unfoldable pub holds : (index : List ℕ) (i at : ℕ) → Bool
holds index i at = leb (first_in index i) at && ltb at (first_in index i + length_in index i)

-- The first record that holds a byte, of so many from one on. Children come before their parents, so it is the innermost.
unfoldable pub first_holding : (index : List ℕ) (at i more : ℕ) → ℕ
first_holding index at i zero = i
first_holding index at i (suc more) = cond (holds index i at) i (first_holding index at (i + 1) more)

abbrev pub innermost : (index : List ℕ) (at : ℕ) → ℕ
innermost index at = first_holding index at 0 (count index)

-- How many of them hold it. Those after a record that hold a byte of it are the records above it.
unfoldable pub holding : (index : List ℕ) (at i more : ℕ) → ℕ
holding index at i zero = 0
holding index at i (suc more) = cond (holds index i at) 1 0 + holding index at (i + 1) more

abbrev pub depth : (index : List ℕ) (i at : ℕ) → ℕ
depth index i at = holding index at (i + 1) (count index - (i + 1))
