-- The place of each dissat in its order, from types/malleability.rs, and a malleability as the digits of a number: bases 3, 2, 2.
use Rattle.std.specs.Prelude.{cond, ℕ, ◌/◌, ◌%◌, eqb}
use Rattle.contexts.specs.Bools.{bool_of}
use Rattle.malleability.specs.Names.{Dissat, None, Unique, Unknown, Malleability}

abbrev pub dissat_rank : Dissat → ℕ
dissat_rank None = 0
dissat_rank Unique = 1
dissat_rank Unknown = 2

-- what a digit stands for; a digit that is too large stands for the last

abbrev pub dissat_of : ℕ → Dissat
dissat_of n = cond (eqb n 0) None (cond (eqb n 1) Unique Unknown)

abbrev pub unpack_mall : ℕ → Malleability
unpack_mall n = record { dissat = dissat_of (n / 4); safe = bool_of (n / 2 % 2); non_malleable = bool_of (n % 2) }
