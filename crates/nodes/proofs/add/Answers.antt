-- `nodes::add` meets its contract: a full memory stays as it is, and else the candidate is the next node. Assumes nothing.
use mathlib.Core.Path.{refl}
use Rattle.nodes.specs.Answers.{full}
use Rattle.nodes.proofs.Appended.{fresh-fits, added}
use Rattle.nodes.proofs.add.Goals as goal

pub returns-then-n-eq-MAX_NODES : goal.returns-then-n-eq-MAX_NODES
returns-then-n-eq-MAX_NODES c = full c.if-n-eq-MAX_NODES.true refl

pub words_of-words-requires : goal.words_of-words-requires
words_of-words-requires c = fresh-fits c.requires.1

pub returns : goal.returns
returns c = added c.requires.0 c.requires.1 c.if-n-eq-MAX_NODES.false c.words_of-words.ensures c.put_words.ensures refl
