-- Which pairs are well-typed, by the types of their sides alone (candidates, specs/Pairs.antt). Assumes nothing.
use Rattle.std.specs.Prelude.{Bool, false, cond, List, [], ◌∷◌, ℕ, eqb, is_ok}
use Rattle.types.specs.declared.«Type».{«Type»}
use Rattle.candidates.specs.Pairs.{Row}

-- the pair of a kind; of another kind there is none
unfoldable pub fits_from : List Row → ℕ → «Type» → «Type» → Bool
fits_from [] kind l r = false
fits_from (p ∷ pairs) kind l r = cond (eqb kind p.kind) (is_ok (p.type_rule l r)) (fits_from pairs kind l r)
