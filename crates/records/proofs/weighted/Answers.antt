-- `records::weighted` meets its contract: two children and then two weights. Assumes nothing.
use borrow.Author.Tests.{eq-eqb, ne_eqb}
use Rattle.records.specs.Payloads.{payload_of}
use Rattle.records.specs.Numbers.{u16s}
use Rattle.records.proofs.weighted.Goals as goal

pub returns-then-bytes-eq16 : goal.returns-then-bytes-eq16
unfolding payload_of u16s
returns-then-bytes-eq16 c = simp (
  eq-eqb _ _ c.if-bytes-eq16.true,
  c.children_at-children.ensures,
  c.fitting-parts.ensures,
  c.u32_or_zero.ensures,
  c.u32_or_zero-then-bytes-eq16.ensures,
)

pub returns : goal.returns
unfolding payload_of
returns c = simp (ne_eqb _ _ c.if-bytes-eq16.false, c.unfit.ensures)
