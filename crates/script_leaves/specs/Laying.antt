-- Bytes laid in an output from a position on: a byte past the end of the output falls away, so that laying into an output of no bytes
-- measures. Positions stop at the largest number of 64 bits, so that no sum wraps and nothing is asked of the output.
use Rattle.std.specs.Prelude.{ℕ, ◌+◌, ◌<◌, ◌≤◌, min, [], ◌≡◌, length}
use Rattle.std.proofs.lemmas.List.Edits.{sets}
use Rattle.script_machine.specs.Numbers.{Bytes}
use Rattle.script_bytes.specs.Tables.{Tables, tables}

abbrev pub max_position : ℕ
max_position = 18446744073709551615

abbrev pub clip : ℕ → ℕ
clip n = min n max_position

-- Some bytes are laid in an output from a position on, and end at another; an output is shorter than the largest position.
pub record Lays (before after : Bytes) (at : ℕ) (bytes : Bytes) (end : ℕ) : Type 0 where
  pub is : after ≡ sets before at bytes
  pub ends : end ≡ clip (at + length bytes)
  pub short : length before < max_position

-- how many bytes an entry of a table may have, so that its push is their count and then the bytes
pub record EntrySize (size : ℕ) : Type 0 where
  pub some : 2 ≤ size
  pub few : size ≤ 75

-- tables where keys alone are looked up
abbrev pub only_keys : Bytes → Tables
only_keys keys = tables keys [] [] []
