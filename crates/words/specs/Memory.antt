-- Work memory after a call: document 01, "Numbers the console shows" (work memory is zero after every call). Assumes nothing.
use Rattle.std.specs.Prelude.{List, ℕ, length, replicate}

-- as many words, each zero
abbrev pub zeroed : List ℕ → List ℕ
zeroed m = replicate (length m) 0
