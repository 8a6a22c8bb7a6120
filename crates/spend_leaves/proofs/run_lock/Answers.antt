-- `spend_leaves::run_lock` meets its contract. Assumes nothing.
use mathlib.Core.Path.{◌∙◌}
use Rattle.contexts.specs.Leaves.{After}
use Rattle.spend_leaves.proofs.Pieces.{lock-runs}
use Rattle.spend_leaves.proofs.run_lock.Goals as goal

pub push_number-a-requires : goal.push_number-a-requires
push_number-a-requires c = c.requires

pub check_time-requires : goal.check_time-requires
check_time-requires c = c.push_number-a.ensures.fits

pub shape_of-main : goal.shape_of-main
shape_of-main c = (c.check_time.ensures After).same ∙ c.push_number-a.ensures.same

pub returns : goal.returns
returns c = λ k t kind. lock-runs k t c.push_number-a.ensures c.check_time.ensures kind
