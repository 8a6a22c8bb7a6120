-- What a candidate costs, from `cost_1d` in policy/compiler.rs and document 01, "Modules, leaves first", 3. Assumes nothing.
use Rattle.std.specs.Prelude.{ℕ, false, Float, Option, None, Some}
use Rattle.std.specs.Float.{inf}
use Rattle.costs.specs.Names.{Cost, Price}
use Rattle.costs.specs.Arithmetic.{◌⊕◌, ◌⊗◌, float_of, 0·}
use Rattle.costs.specs.Rules.{sat, dissat}
use Rattle.costs.specs.Price.{price_of}

-- what dissatisfaction adds: infinity where it is asked for and cannot be had
abbrev pub last_term : Option Float → Option Float → Float
last_term (Some prob) (Some d) = prob ⊗ d
last_term (Some prob) None = inf false
last_term None d = 0·

-- the float that it comes to
unfoldable pub total1d : ℕ → Cost → Float → Option Float → Float
total1d pk_cost c sat_prob dissat_prob = float_of pk_cost ⊕ sat c ⊗ sat_prob ⊕ last_term dissat_prob (dissat c)

unfoldable pub cost1d : ℕ → Cost → Float → Option Float → Price
cost1d pk_cost c sat_prob dissat_prob = price_of (total1d pk_cost c sat_prob dissat_prob)
