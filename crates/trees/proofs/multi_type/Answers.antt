-- `trees::multi_type` meets its contract: by the context. Assumes nothing.
use Rattle.trees.proofs.multi_type.Goals as goal

pub returns-in-Segwitv0 : goal.returns-in-Segwitv0
returns-in-Segwitv0 c = simp (c.in-Segwitv0.is, c.multi.ensures)
