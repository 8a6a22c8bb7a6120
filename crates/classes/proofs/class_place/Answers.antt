-- `classes::class_place` meets its contract. Assumes nothing.
use borrow.Author.Tests.{lt-ltb, le-ltb}
use Rattle.classes.proofs.class_place.Goals as goal

pub returns-then-r-lt-MAX_RECORDS : goal.returns-then-r-lt-MAX_RECORDS
returns-then-r-lt-MAX_RECORDS c = simp (lt-ltb _ _ c.if-r-lt-MAX_RECORDS.true)

pub returns : goal.returns
returns c = simp (le-ltb _ _ c.if-r-lt-MAX_RECORDS.false)
