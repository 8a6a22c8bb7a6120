-- `nodes::dissat_word` meets its contract: by the variant. Assumes nothing.
use Rattle.nodes.proofs.Stored.{dissat-some, dissat-none}
use Rattle.nodes.proofs.dissat_word.Goals as goal

pub returns-in-Some : goal.returns-in-Some
returns-in-Some c = dissat-some c.in-Some.is c.cost_word.ensures

pub returns-in-None : goal.returns-in-None
returns-in-None c = dissat-none c.in-None.is
