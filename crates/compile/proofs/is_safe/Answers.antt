-- `compile::is_safe` meets its contract. Assumes nothing.
use mathlib.Core.Path.{ap}
use Rattle.candidates.specs.declared.Candidate.{Candidate}
use Rattle.compile.proofs.is_safe.Goals as goal

pub returns : goal.returns
returns c = ap (λ (x : Candidate). x.ty.mall.safe) c.node.ensures
