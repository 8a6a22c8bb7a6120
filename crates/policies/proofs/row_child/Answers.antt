-- `policies::row_child` meets its contract. Assumes nothing.
use borrow.Author.Tests.{lt-ltb, le-ltb}
use Rattle.policies.proofs.row_child.Goals as goal

pub returns-then-j-lt-MAX_CHILDREN : goal.returns-then-j-lt-MAX_CHILDREN
returns-then-j-lt-MAX_CHILDREN c = simp (lt-ltb _ _ c.if-i-lt-MAX_RECORDS.true, lt-ltb _ _ c.if-j-lt-MAX_CHILDREN.true, c.word.ensures)

pub returns-else-j-lt-MAX_CHILDREN : goal.returns-else-j-lt-MAX_CHILDREN
returns-else-j-lt-MAX_CHILDREN c = simp (lt-ltb _ _ c.if-i-lt-MAX_RECORDS.true, le-ltb _ _ c.if-j-lt-MAX_CHILDREN.false)

pub returns-else-i-lt-MAX_RECORDS : goal.returns-else-i-lt-MAX_RECORDS
returns-else-i-lt-MAX_RECORDS c = simp (le-ltb _ _ c.if-i-lt-MAX_RECORDS.false)
