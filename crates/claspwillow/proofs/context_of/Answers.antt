-- `claspwillow::context_of` meets its contract: a number that has a context is 0 or 1. Assumes nothing.
use Rattle.claspwillow.proofs.CheckLaws.{segwit, tap}
use Rattle.claspwillow.proofs.context_of.Goals as goal

pub returns-then-context-eq0 : goal.returns-then-context-eq0
returns-then-context-eq0 c = segwit c.args.context c.if-context-eq0.true

pub returns-else-context-eq0 : goal.returns-else-context-eq0
returns-else-context-eq0 c = tap c.args.context c.if-context-eq0.false
