-- `spend_leaves::equal_verify` meets its contract. Assumes nothing.
use mathlib.Core.Path.{◌∙◌}
use Rattle.spend_leaves.proofs.Laws.{equal-verifies}
use Rattle.spend_leaves.proofs.equal_verify.Goals as goal

pub equal-a-requires : goal.equal-a-requires
equal-a-requires c = c.requires

pub verify-requires : goal.verify-requires
verify-requires c = c.equal-a.ensures.fits

pub shape_of-main : goal.shape_of-main
shape_of-main c = c.verify.ensures.same ∙ c.equal-a.ensures.same

pub returns : goal.returns
returns c = equal-verifies c.requires c.equal-a.ensures c.verify.ensures
