-- `spend_leaves::check_next` meets its contract. Assumes nothing.
use Rattle.spend_leaves.proofs.Laws.{first-checks, other-checks}
use Rattle.spend_leaves.proofs.check_next.Goals as goal

pub check_sig-requires : goal.check_sig-requires
check_sig-requires c = c.requires

pub shape_of-main-then-first : goal.shape_of-main-then-first
shape_of-main-then-first c = c.check_sig.ensures.same

pub returns-then-first : goal.returns-then-first
returns-then-first c = first-checks c.if-first.true c.check_sig.ensures

pub check_sig_add-requires : goal.check_sig_add-requires
check_sig_add-requires c = c.requires

pub shape_of-main : goal.shape_of-main
shape_of-main c = c.check_sig_add.ensures.same

pub returns : goal.returns
returns c = other-checks c.if-first.false c.check_sig_add.ensures
