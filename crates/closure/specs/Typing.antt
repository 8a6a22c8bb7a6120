-- Which casts are well-typed, by the type of what is cast alone (candidates, specs/Casts.antt). Assumes nothing.
use Rattle.correctness.specs.declared.TypeError.{TypeError}
use Rattle.std.specs.Prelude.{Bool, true, false, List, [], ◌∷◌, ℕ, zero, suc, Result, Ok, Err}
use Rattle.types.specs.declared.«Type».{«Type»}
use Rattle.candidates.specs.Casts.{Row}

abbrev pub is_typed : Result «Type» TypeError → Bool
is_typed (Ok t) = true
is_typed (Err e) = false

-- the type of the cast of a number, 0 for the first; no other number has one
unfoldable pub cast_type : List Row → ℕ → «Type» → Result «Type» TypeError
cast_type [] number t = Err TypeError.IllTyped
cast_type (r ∷ rows) zero t = r.type_rule t
cast_type (r ∷ rows) (suc number) t = cast_type rows number t
