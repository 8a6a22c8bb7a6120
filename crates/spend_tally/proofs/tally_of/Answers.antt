-- `spend_tally::tally_of` meets its contract: a count for each verdict. Assumes nothing.
use Rattle.spend_tally.proofs.tally_of.Goals as goal

pub returns : goal.returns
returns c = simp (c.count_of-agree.ensures, c.count_of-differ.ensures, c.count_of-mismatched.ensures, c.count_of-too_large.ensures)
