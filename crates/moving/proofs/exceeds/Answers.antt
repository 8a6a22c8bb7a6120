-- `moving::exceeds` meets its contract. Assumes nothing.
use Rattle.moving.proofs.exceeds.Goals as goal

pub returns-in-Old : goal.returns-in-Old
returns-in-Old c = simp c.in-Old.is
