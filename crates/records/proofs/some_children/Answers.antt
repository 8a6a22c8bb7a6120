-- `records::some_children` meets its contract: the length goes by the count of children. Assumes nothing.
use borrow.Author.Tests.{eq-eqb, ne_eqb}
use Rattle.records.proofs.Numbers.{length-u16s}
use Rattle.records.proofs.some_children.Goals as goal

pub returns-then-bytes-count : goal.returns-then-bytes-count
returns-then-bytes-count c = simp (eq-eqb _ _ c.if-bytes-count.true, c.children_at-children.ensures, c.fitting-parts.ensures, length-u16s)

pub returns : goal.returns
returns c = simp (ne_eqb _ _ c.if-bytes-count.false, c.unfit.ensures)
