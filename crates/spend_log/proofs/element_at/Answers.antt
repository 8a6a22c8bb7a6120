-- `spend_log::element_at` meets its contract: its length stands in front. Assumes nothing.
use Rattle.spend_log.proofs.element_at.Goals as goal

pub returns : goal.returns
returns c = simp c.u32_or_zero-len.ensures
