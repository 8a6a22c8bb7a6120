-- `policies::read_records` meets its contract: what is still to come of the reading gives what the reading of all gives. Assumes nothing.
use mathlib.Core.Path.{refl, sym, ◌∙◌}
use Rattle.policies.proofs.Records.{read-starts, read-ends, read-too-many, read-refused, read-moves, read_more}
use Rattle.std.proofs.lemmas.Result.{err_from_is_err_and}
use native.Mathlib.Omega.{arith}
use Rattle.policies.proofs.read_records.Goals as goal

pub loop-at-init : goal.loop-at-init
loop-at-init c = read-starts c.args.bytes.now c.args.pol.now c.requires

pub shape_of-pol-then-i-eq-MAX_RECORDS : goal.shape_of-pol-then-i-eq-MAX_RECORDS
shape_of-pol-then-i-eq-MAX_RECORDS c = c.loop-at.invariant.good.rows.long ∙ sym c.requires.rows.long

pub returns-then-i-eq-MAX_RECORDS : goal.returns-then-i-eq-MAX_RECORDS
returns-then-i-eq-MAX_RECORDS c = read-too-many c.args.bytes.now c.loop-at.pol c.loop-at.at c.loop-at.i c.loop-at.invariant c.loop-at-test.true c.if-i-eq-MAX_RECORDS.true _

pub read_record-requires : goal.read_record-requires
read_record-requires c = (c.loop-at.invariant.good, (omega (arith, c.loop-at.invariant.few, c.if-i-eq-MAX_RECORDS.false), c.loop-at.invariant.within))

pub returns-in_err-len : goal.returns-in_err-len
returns-in_err-len c = let p = err_from_is_err_and c.from_residual.result c.from_residual.ensures.1 in
    rw (p.1, p.2) (read-refused c.args.bytes.now c.loop-at.pol c.loop-at.at c.loop-at.i c.loop-at.invariant c.loop-at-test.true c.if-i-eq-MAX_RECORDS.false c.in_err-len.ensures refl)

pub overflow_add-at : goal.overflow_add-at
overflow_add-at c = omega (
  arith,
  (read-moves c.args.bytes.now c.loop-at.pol c.loop-at.at c.loop-at.i c.loop-at.invariant c.loop-at-test.true c.if-i-eq-MAX_RECORDS.false c.in_ok-len.ensures
      _ refl).1,
)

pub loop-at-smaller : goal.loop-at-smaller
loop-at-smaller c = let moves =
    read-moves c.args.bytes.now c.loop-at.pol c.loop-at.at c.loop-at.i c.loop-at.invariant c.loop-at-test.true c.if-i-eq-MAX_RECORDS.false c.in_ok-len.ensures _ refl in
    omega (arith, moves.0, moves.1)

pub loop-at-preserved : goal.loop-at-preserved
loop-at-preserved c = read_more c.args.bytes.now c.loop-at.pol c.loop-at.at c.loop-at.i c.loop-at.invariant c.loop-at-test.true c.if-i-eq-MAX_RECORDS.false c.in_ok-len.ensures _ refl

pub shape_of-pol : goal.shape_of-pol
shape_of-pol c = c.loop-at.invariant.good.rows.long ∙ sym c.requires.rows.long

pub returns : goal.returns
returns c = read-ends c.args.bytes.now c.loop-at.pol c.loop-at.at c.loop-at.i c.loop-at.invariant c.loop-at-test.false
