-- The entries of an index in bytes: document 02, R-11. An entry is 16 bytes, a u32 each: the packed type, the height, the first byte and the length.
use Rattle.std.specs.Prelude.{ℕ, zero, suc, ◌/◌, ◌%◌, List, [], ◌++◌}
use Rattle.words.specs.Bytes.{bytes_of}

pub record Entry : Type 0 where
  pub type : ℕ
  pub height : ℕ
  pub first : ℕ
  pub size : ℕ

abbrev pub entry_bytes : Entry → List ℕ
entry_bytes e = bytes_of 4 e.type ++ (bytes_of 4 e.height ++ (bytes_of 4 e.first ++ bytes_of 4 e.size))

-- the entries of the first records
unfoldable pub entries_bytes : (ℕ → Entry) → ℕ → List ℕ
entries_bytes entry zero = []
entries_bytes entry (suc n) = entries_bytes entry n ++ entry_bytes (entry n)

-- a number of an entry by its place, and a byte of a number by its place
abbrev pub part : Entry → (place : ℕ) → ℕ
part e zero = e.type
part e (suc zero) = e.height
part e (suc (suc zero)) = e.first
part e (suc (suc (suc n))) = e.size

abbrev pub digit : (place n : ℕ) → ℕ
digit zero n = n % 256
digit (suc zero) n = n / 256 % 256
digit (suc (suc zero)) n = n / 256 / 256 % 256
digit (suc (suc (suc p))) n = n / 256 / 256 / 256 % 256
