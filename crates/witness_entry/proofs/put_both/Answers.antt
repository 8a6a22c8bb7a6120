use Rattle.witness_entry.specs.Memory.{put_both}
use Rattle.witness_entry.proofs.put_both.Goals as goal

pub returns : goal.returns
unfolding put_both
returns c = rw (c.word_of.ensures, c.word_of-2.ensures)
