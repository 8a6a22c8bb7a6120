-- `cache::same_words` meets its contract. Assumes nothing.
use Rattle.cache.proofs.same_words.Goals as goal

pub returns-then-sat-float_of_word : goal.returns-then-sat-float_of_word
returns-then-sat-float_of_word c = rw (← c.float_of_word.ensures, c.if-sat-float_of_word.true) c.same_word.ensures

pub returns-else-sat-float_of_word : goal.returns-else-sat-float_of_word
returns-else-sat-float_of_word c = rw (← c.float_of_word.ensures, c.if-sat-float_of_word.false)
