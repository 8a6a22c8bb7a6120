-- `records::nothing` meets its contract: the record is four bytes long. Assumes nothing.
use borrow.Author.Tests.{eq-eqb, ne_eqb}
use Rattle.records.specs.Payloads.{payload_of}
use Rattle.records.proofs.nothing.Goals as goal

pub returns-then-bytes-eq4 : goal.returns-then-bytes-eq4
unfolding payload_of
returns-then-bytes-eq4 c = simp (eq-eqb _ _ c.if-bytes-eq4.true, c.fitting.ensures)

pub returns : goal.returns
unfolding payload_of
returns c = simp (ne_eqb _ _ c.if-bytes-eq4.false, c.unfit.ensures)
