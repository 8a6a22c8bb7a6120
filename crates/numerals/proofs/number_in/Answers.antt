-- `numerals::number_in` meets its contract: the number grows digit by digit. Assumes nothing.
use mathlib.Core.Path.{sym}
use native.Mathlib.Omega.{arith}
use Rattle.numerals.proofs.Digits.{read_none, read_next, read_all, no_digit, fits_next}
use Rattle.numerals.proofs.number_in.Goals as goal

pub loop-b-init : goal.loop-b-init
loop-b-init c = read_none c.args.base c.args.word.now

pub returns-then-base-d : goal.returns-then-base-d
returns-then-base-d c = no_digit c.args.base c.args.word.now c.loop-b.n c.loop-b.b-index c.loop-b.invariant c.loop-b-test.true c.digit-d.result c.digit-d.ensures
    c.if-base-d.true

pub overflow_mul-n : goal.overflow_mul-n
overflow_mul-n c = omega (
  arith,
  fits_next c.args.base c.args.word.now c.loop-b.n c.loop-b.b-index c.loop-b.invariant c.loop-b-test.true c.digit-d.result
      c.if-base-d.false c.requires,
)

pub overflow_add-n : goal.overflow_add-n
overflow_add-n c = omega (
  arith,
  fits_next c.args.base c.args.word.now c.loop-b.n c.loop-b.b-index c.loop-b.invariant c.loop-b-test.true c.digit-d.result
      c.if-base-d.false c.requires,
)

pub loop-b-preserved : goal.loop-b-preserved
loop-b-preserved c = read_next c.args.base c.args.word.now c.loop-b.n c.loop-b.b-index c.loop-b.invariant c.loop-b-test.true c.digit-d.result c.digit-d.ensures
    c.if-base-d.false

pub returns : goal.returns
returns c = sym (read_all c.args.base c.args.word.now c.loop-b.n c.loop-b.b-index c.loop-b.invariant (λ h. omega arith))
