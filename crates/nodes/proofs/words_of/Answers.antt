-- `nodes::words_of` meets its contract: each word is its definition, and each part fits it. Assumes nothing.
use Rattle.nodes.proofs.Stored.{words_are}
use Rattle.nodes.proofs.words_of.Goals as goal

pub returns : goal.returns
returns c = words_are c.args.x c.requires.0 c.requires.1
    c.shape_word.ensures c.script_word.ensures
    c.witness_word.ensures c.stack_word.ensures c.witness_word-2.ensures
    c.stack_word-2.ensures c.cost_word.ensures c.dissat_word.ensures
