use Rattle.truth.specs.Words.{block_words}
use Rattle.truth.proofs.block_words.Goals as goal

pub returns : goal.returns
unfolding block_words
returns c = rw (c.full.ensures, c.full-2.ensures, c.full-3.ensures, c.full-4.ensures, c.full-5.ensures, c.full-6.ensures)
