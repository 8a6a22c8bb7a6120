-- `records::lock` meets its contract: the number is tested against both its limits. Assumes nothing.
use mathlib.Core.Path.{sym}
use borrow.Author.Tests.{eq-eqb, ne_eqb, le-leb, lt-leb}
use Rattle.records.specs.Payloads.{payload_of}
use Rattle.records.proofs.lock.Goals as goal

pub returns-then-number-lt1 : goal.returns-then-number-lt1
unfolding payload_of
returns-then-number-lt1 c = simp (eq-eqb _ _ c.if-bytes-eq8.true, sym c.number_of-number.ensures.value, lt-leb _ _ c.if-number-lt1.true, c.unfit.ensures)

pub returns-then-number-gt-MAX_LOCK : goal.returns-then-number-gt-MAX_LOCK
unfolding payload_of
returns-then-number-gt-MAX_LOCK c = simp (eq-eqb _ _ c.if-bytes-eq8.true, sym c.number_of-number.ensures.value, le-leb _ _ c.if-number-lt1.false, lt-leb _ _ c.if-number-gt-MAX_LOCK.true, c.unfit-then-number-gt-MAX_LOCK.ensures)

pub returns-then-bytes-eq8 : goal.returns-then-bytes-eq8
unfolding payload_of
returns-then-bytes-eq8 c = simp (eq-eqb _ _ c.if-bytes-eq8.true, sym c.number_of-number.ensures.value, le-leb _ _ c.if-number-lt1.false, le-leb _ _ c.if-number-gt-MAX_LOCK.false, c.fitting-parts.ensures)

pub returns : goal.returns
unfolding payload_of
returns c = simp (ne_eqb _ _ c.if-bytes-eq8.false, c.unfit-2.ensures)
