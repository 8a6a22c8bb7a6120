-- What may be offered to a table, a candidate within its bounds, which is neither valid in its context nor low enough yet; and what was made of nodes, as the
-- definition has it. Assumes nothing.
use Rattle.candidates.specs.declared.NotMade.{NotMade}
use Rattle.std.specs.Prelude.{List, ◌≡◌, ℕ, ◌<◌, Result, Ok, Err}
use Rattle.figures.specs.Bounds as bounds
use Rattle.definition.specs.Candidates as definition
use Rattle.candidates.specs.declared.Candidate.{Candidate}
use Rattle.trees.specs.Height.{max_height}
use Rattle.memory.specs.Layout.{row_count}
use Rattle.nodes.specs.Views.{offered}
use Rattle.nodes.specs.Answers.{thresh_kind}

pub record Offerable (m : List ℕ) (x : Candidate) : Type 0 where
  pub candidate : bounds.Candidate max_height x.ext
  pub kind : x.kind < 64
  pub rowed : x.kind ≡ thresh_kind → x.second < row_count m

-- a pair, a triple or a Thresh
abbrev pub made_seen : (pol m : List ℕ) → Result Candidate NotMade → definition.Made
made_seen pol m (Ok y) = definition.made (offered pol m y)
made_seen pol m (Err NotMade.PassedOver) = definition.passed_over
made_seen pol m (Err NotMade.Missing) = definition.missing
