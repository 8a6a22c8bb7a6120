-- `cache::dissat_word` meets its contract. Assumes nothing.
use Rattle.std.proofs.Common.{rules}
use Rattle.cache.proofs.Keys.{holds-some}
use Rattle.cache.proofs.dissat_word.Goals as goal

pub returns-in-Some : goal.returns-in-Some
returns-in-Some c = holds-some c.args.dissat _ _ c.in-Some.is (search rules) c.word_of_float.ensures
