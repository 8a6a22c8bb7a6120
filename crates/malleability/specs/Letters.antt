-- Tests that the rules share, from `constfn_eq` in types/malleability.rs.
use Rattle.std.specs.Prelude.{Bool, true, false}
use Rattle.malleability.specs.Names.{Dissat, None, Unique, Unknown}

-- f: has no dissatisfaction
abbrev pub is_none : Dissat → Bool
is_none None = true
is_none Unique = false
is_none Unknown = false

-- e: has exactly one dissatisfaction
abbrev pub is_unique : Dissat → Bool
is_unique None = false
is_unique Unique = true
is_unique Unknown = false
