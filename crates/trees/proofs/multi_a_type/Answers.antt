-- `trees::multi_a_type` meets its contract: by the context. Assumes nothing.
use Rattle.trees.proofs.multi_a_type.Goals as goal

pub returns-in-Tap : goal.returns-in-Tap
returns-in-Tap c = simp (c.in-Tap.is, c.multi_a.ensures)
