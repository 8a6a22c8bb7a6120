-- Tables, their keys, and what is remembered of them, from CompilationKey and PolicyCache in policy/compiler.rs: document 01, "Modules, leaves
-- first", 5 and 7. All entries of a table have its dissatisfaction probability, so of a key's three parts that one never decides here.
use Rattle.std.specs.Prelude.{Bool, true, false, not, cond, ◌&&◌, List, [], ◌∷◌, ℕ, ltb, Float, Option}
use Rattle.std.specs.Float.Ieee.{eq}
use Rattle.types.specs.Subtype.{type_sub}
use Rattle.types.specs.TypeOrder.{pack}
use Rattle.contexts.specs.Bools.{bool_rank}
use Rattle.costs.specs.declared.Price.{Price}
use Rattle.costs.specs.Cost1d.{cost1d}
use Rattle.definition.specs.Candidates.{Candidate}

-- how probable it is that a fragment is satisfied, and that it is dissatisfied, if it ever is
pub record Probs : Type 0 where
  pub sat : Float
  pub dissat : Option Float

abbrev pub probs : Float → Option Float → Probs
probs s d = record { sat = s; dissat = d }

-- what a candidate costs at these probabilities: a finite cost, never, or not a cost
abbrev pub cost_at : Probs → Candidate → Price
cost_at p x = cost1d x.ext.pk_cost x.cost p.sat p.dissat

-- a table is a list of its entries, in the order of their keys: type, then free-verify
abbrev pub Table : Type 0
Table = List Candidate

abbrev pub free_verify : Candidate → Bool
free_verify x = x.ext.has_free_verify

abbrev pub same_bool : Bool → Bool → Bool
same_bool true b = b
same_bool false b = not b

abbrev pub key_sub : Candidate → Candidate → Bool
key_sub x y = type_sub x.ty y.ty && same_bool (free_verify x) (free_verify y)

-- whether x's key comes before y's
abbrev pub key_before : Candidate → Candidate → Bool
key_before x y =
    cond (ltb (pack x.ty) (pack y.ty)) true
    (cond (ltb (pack y.ty) (pack x.ty)) false (ltb (bool_rank (free_verify x)) (bool_rank (free_verify y))))

-- the table with a new entry at its key's place
unfoldable pub enter : Candidate → Table → Table
enter x [] = x ∷ []
enter x (e ∷ es) = cond (key_before e x) (e ∷ enter x es) (x ∷ e ∷ es)
