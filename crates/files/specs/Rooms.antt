-- What reading a file answers: where it is whole, a byte of the room is left, so that a longer file is told apart. Assumes nothing.
use Rattle.std.specs.Prelude.{ℕ, ◌<◌, Option, None, Some, Result, Ok, Err}
use Rattle.files.specs.declared.ReadError.{ReadError}

abbrev pub Within : ℕ → Result ℕ ReadError → Type 0
Within room (Ok n) = n < room
Within room (Err e) = Unit

-- the same of loading it
abbrev pub Held : ℕ → Option ℕ → Type 0
Held room (Some n) = n < room
Held room None = Unit
