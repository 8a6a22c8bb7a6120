-- `search_state::remembers` meets its contract. Assumes nothing.
use mathlib.Core.Path.{◌∙◌}
use Rattle.search_state.proofs.Lookups.{recalled-is}
use Rattle.search_state.proofs.remembers.Goals as goal

pub returns : goal.returns
returns c = c.is_some.ensures ∙ recalled-is c.recall.ensures
