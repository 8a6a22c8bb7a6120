-- `nodes::add_row` meets its contract: the row is the next one. Assumes nothing.
use mathlib.Core.Path.{refl}
use Rattle.nodes.proofs.Appended.{rowed}
use Rattle.nodes.proofs.add_row.Goals as goal

pub returns : goal.returns
returns c = rowed c.requires.0 c.requires.1 c.row_words-words.ensures c.put_words.ensures refl
