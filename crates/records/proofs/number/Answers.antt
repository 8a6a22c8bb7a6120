-- `records::number` meets its contract: the record is as long as its number's width says, and the number stands at byte 4. Assumes nothing.
use native.Mathlib.Omega.{arith}
use mathlib.Core.Path.{sym}
use borrow.Author.Tests.{eq-eqb, ne_eqb}
use Rattle.records.specs.Payloads.{payload_of}
use Rattle.records.proofs.Widths.{width_few}
use Rattle.records.proofs.number.Goals as goal

pub overflow_add-width_of : goal.overflow_add-width_of
overflow_add-width_of c = omega (arith, c.width_of.ensures, width_few c.args.bytes.now)

pub returns-then-bytes-width_of : goal.returns-then-bytes-width_of
unfolding payload_of
returns-then-bytes-width_of c = simp (sym c.width_of.ensures, eq-eqb _ _ c.if-bytes-width_of.true, c.fitting-parts.ensures, c.number_of.ensures.value)

pub returns : goal.returns
unfolding payload_of
returns c = simp (sym c.width_of.ensures, ne_eqb _ _ c.if-bytes-width_of.false, c.unfit.ensures)
