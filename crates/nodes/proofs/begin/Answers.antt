-- `nodes::begin` meets its contract: the counts are written first, and then the words of False and of True. Assumes nothing.
use Rattle.nodes.proofs.Appended.{false-fits, true-fits, words-as, begun, first-room, second-room, both_long}
use Rattle.nodes.proofs.begin.Goals as goal

pub words_of-no-requires : goal.words_of-no-requires
words_of-no-requires c = false-fits c.of_false.ensures

pub words_of-yes-requires : goal.words_of-yes-requires
words_of-yes-requires c = true-fits c.of_true.ensures

pub put_words-requires : goal.put_words-requires
put_words-requires c = first-room c.args.work.now c.requires c.words_of-no.ensures

pub put_words-requires-2 : goal.put_words-requires-2
put_words-requires-2 c = second-room c.args.work.now c.requires c.words_of-no.ensures c.words_of-yes.ensures c.put_words.ensures

pub shape_of-work : goal.shape_of-work
shape_of-work c = both_long c.args.work.now c.requires c.words_of-no.ensures c.words_of-yes.ensures c.put_words.ensures
    c.put_words-2.ensures

pub returns : goal.returns
returns c = begun c.args.work.now _ _ c.requires
    (words-as c.of_false.ensures c.words_of-no.ensures)
    (words-as c.of_true.ensures c.words_of-yes.ensures) c.put_words.ensures c.put_words-2.ensures
