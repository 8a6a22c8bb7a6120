use Rattle.truth.proofs.Counting.{again-counted}
use Rattle.truth.proofs.count_again.Goals as goal

pub word_at-word-requires : goal.word_at-word-requires
word_at-word-requires c = c.requires.1 c.if-kind-eq55.true

pub returns-then-kind-eq55 : goal.returns-then-kind-eq55
returns-then-kind-eq55 c = again-counted c.if-kind-eq55.true c.word_at-word.ensures c.one_more.ensures
