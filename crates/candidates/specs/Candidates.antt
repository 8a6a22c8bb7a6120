-- A candidate, from AstElemExt in policy/compiler.rs, with numbered nodes for its children (document 01, "Forms that must change"), and
-- what it costs, from `cost_1d` there.
use Rattle.std.specs.Prelude.{ℕ, Float, Option}
use Rattle.types.specs.declared.«Type».{«Type»}
use Rattle.figures.specs.declared.ExtData.{ExtData}
use Rattle.costs.specs.declared.Cost.{Cost}
use Rattle.costs.specs.declared.Price.{Price}
use Rattle.costs.specs.Cost1d.{cost1d}
use Rattle.candidates.specs.declared.Candidate.{Candidate}

-- kind, the nodes of up to three children, type, figures, cost
abbrev pub candidate : ℕ → ℕ → ℕ → ℕ → «Type» → ExtData → Cost → Candidate
candidate kind first second third t e c =
    record { kind = kind; first = first; second = second; third = third; ty = t; ext = e; cost = c }

-- the cost at the probabilities of satisfaction and of dissatisfaction
abbrev pub cost_at : Candidate → Float → Option Float → Price
cost_at x sat_prob dissat_prob = cost1d x.ext.pk_cost x.cost sat_prob dissat_prob
