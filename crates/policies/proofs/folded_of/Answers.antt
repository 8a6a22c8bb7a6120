-- `policies::folded_of` meets its contract. Assumes nothing.
use borrow.Author.Tests.{lt-ltb, le-ltb}
use Rattle.policies.specs.Array.{fold_number}
use Rattle.policies.proofs.folded_of.Goals as goal

pub returns-then-n-lt2 : goal.returns-then-n-lt2
unfolding fold_number
returns-then-n-lt2 c = simp (lt-ltb _ _ c.if-n-lt2.true, c.row_child.ensures)

pub returns : goal.returns
unfolding fold_number
returns c = simp (le-ltb _ _ c.if-n-lt2.false)
