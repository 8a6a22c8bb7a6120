-- What is asked of an index in work memory: whether some bytes are the same, and which record holds a byte of the script. Document 02, R-11.
use Rattle.std.specs.Prelude.{ℕ, ◌+◌, ◌<◌, Bool, true, false, ◌&&◌, List, ◌≡◌, leb, ltb, Option, None, Some}
use Rattle.index_memory.specs.Memory.{size_in, first_in}

pub record Compared (given index : List ℕ) (r : Bool) : Type 0 where
  pub yes : r ≡ true → given ≡ index
  pub no : r ≡ false → given ≡ index → ⊥

-- byte `at` lies in the range that work memory has of record i
unfoldable pub holds_in : (work : List ℕ) (i at : ℕ) → Bool
holds_in work i at = leb (first_in work i) at && ltb at (first_in work i + size_in work false i)

-- the first record that holds it, if one does
pub data FirstHolding (work : List ℕ) (count at : ℕ) : Option ℕ → Type 0 where
  first : {i : ℕ} → i < count → ((k : ℕ) → k < i → holds_in work k at ≡ false) → holds_in work i at ≡ true → FirstHolding work count at (Some i)
  nowhere : ((k : ℕ) → k < count → holds_in work k at ≡ false) → FirstHolding work count at None
