-- `policies::child` meets its contract. Assumes nothing.
use borrow.Author.Tests.{lt-ltb, le-ltb, eq-eqb, ne_eqb}
use Rattle.policies.specs.Array.{child_number}
use Rattle.policies.proofs.child.Goals as goal

pub returns-then-r-lt-MAX_RECORDS : goal.returns-then-r-lt-MAX_RECORDS
unfolding child_number
returns-then-r-lt-MAX_RECORDS c = simp (lt-ltb _ _ c.if-r-lt-MAX_RECORDS.true, c.row_child.ensures)

pub returns-then-j-eq1 : goal.returns-then-j-eq1
unfolding child_number
returns-then-j-eq1 c = simp (le-ltb _ _ c.if-r-lt-MAX_RECORDS.false, eq-eqb _ _ c.if-j-eq1.true, c.row_child-then-j-eq1.ensures)

pub returns-then-place-eq0 : goal.returns-then-place-eq0
unfolding child_number
returns-then-place-eq0 c = simp (le-ltb _ _ c.if-r-lt-MAX_RECORDS.false, ne_eqb _ _ c.if-j-eq1.false, eq-eqb _ _ c.if-place-eq0.true, c.row_child-then-place-eq0.ensures)

pub returns : goal.returns
unfolding child_number
returns c = simp (le-ltb _ _ c.if-r-lt-MAX_RECORDS.false, ne_eqb _ _ c.if-j-eq1.false, ne_eqb _ _ c.if-place-eq0.false)
