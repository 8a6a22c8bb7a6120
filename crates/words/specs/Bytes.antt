-- Little-endian numbers of any width in a list of bytes: document 01, "Records" (lengths, kinds and child numbers are u16; keys, locks
-- and weights are u32), and document 02, R-3 (keys may be u64). Assumes nothing.
use Rattle.std.specs.Prelude.{Bool, true, false, List, [], ◌∷◌, ℕ, zero, suc, ◌+◌, ◌*◌, ◌/◌, ◌%◌, leb, length, take, drop, Option, None, Some}
use Rattle.std.proofs.lemmas.List.Edits.{sets}

-- the number that some bytes write, the least significant first
unfoldable pub little : List ℕ → ℕ
little [] = 0
little (b ∷ bs) = b + little bs * 256

-- the bytes that write a number, the least significant first
unfoldable pub bytes_of : (width : ℕ) → ℕ → List ℕ
bytes_of zero v = []
bytes_of (suc width) v = v % 256 ∷ bytes_of width (v / 256)

-- whether a list holds so many bytes from a place on
abbrev pub has_bytes : (width : ℕ) → List ℕ → ℕ → Bool
has_bytes width s at = leb (at + width) (length s)

abbrev pub when_read : Bool → ℕ → Option ℕ
when_read true v = Some v
when_read false v = None

-- the number read at a place, if its bytes are there
unfoldable pub le_at : (width : ℕ) → List ℕ → ℕ → Option ℕ
le_at width s at = when_read (has_bytes width s at) (little (take width (drop at s)))

abbrev pub when_written : Bool → List ℕ → List ℕ → List ℕ
when_written true written s = written
when_written false written s = s

-- the list with a number written at a place; the same list where its bytes are not there
unfoldable pub put_le : (width : ℕ) → List ℕ → ℕ → ℕ → List ℕ
put_le width s at v = when_written (has_bytes width s at) (sets s at (bytes_of width v)) s
