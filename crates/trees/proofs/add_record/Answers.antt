-- `trees::add_record` meets its contract: the tallest child decides. Assumes nothing.
use mathlib.Core.Path.{refl}
use Rattle.trees.proofs.Subtrees.{placed-low, placed-tall}
use Rattle.trees.proofs.add_record.Goals as goal

pub returns-then-below-ge-MAX_HEIGHT : goal.returns-then-below-ge-MAX_HEIGHT
returns-then-below-ge-MAX_HEIGHT c = placed-tall c.tallest-below.ensures refl c.if-below-ge-MAX_HEIGHT.true

pub returns : goal.returns
returns c = placed-low c.tallest-below.ensures c.add_slot.ensures.work_len_unchanged c.if-below-ge-MAX_HEIGHT.false c.add_slot.ensures.read_after
