-- `nodes::row_words` meets its contract: each word is its definition, and each number fits it. Assumes nothing.
use Rattle.nodes.proofs.Stored.{rows_are}
use Rattle.nodes.proofs.row_words.Goals as goal

pub returns : goal.returns
returns c = rows_are c.args.row c.row_word.ensures c.row_word-2.ensures c.row_word-3.ensures
    c.row_word-4.ensures
