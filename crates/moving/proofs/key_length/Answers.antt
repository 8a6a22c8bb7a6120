-- `moving::key_length` meets its contract. Assumes nothing.
use Rattle.moving.proofs.key_length.Goals as goal

pub returns-in-Old : goal.returns-in-Old
returns-in-Old c = simp c.in-Old.is

pub returns-in-New : goal.returns-in-New
returns-in-New c = simp c.in-New.is
