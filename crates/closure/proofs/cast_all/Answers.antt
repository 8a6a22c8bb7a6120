-- `closure::cast_all` meets its contract: before the cast of a number, the casts still to come give what all ten give. Assumes nothing.
use mathlib.Core.Path.{sym, ◌∙◌}
use Rattle.closure.proofs.cast_all.Goals.{then-castable+else-is_err, else-castable}
use native.Mathlib.Omega.{arith}
use Rattle.definition.specs.Tables.{probs}
use Rattle.table.proofs.Kept.{extends-trans}
use Rattle.closure.proofs.Extending.{still-long, still-below}
use Rattle.closure.proofs.Offering.{is-refused, is-done}
use Rattle.closure.proofs.Casting.{casting-begins, casting-ends, casting-refused, casting-offered, casting-passed}
use Rattle.closure.proofs.cast_all.Goals as goal

pub loop-number-init : goal.loop-number-init
loop-number-init c = (casting-begins c.args.context (probs c.args.sat c.args.dissat) c.requires.0 c.requires.1.0, omega arith)

pub offer_cast-c-requires : goal.offer_cast-c-requires
offer_cast-c-requires c = (
  c.loop-number.invariant.0.extends.holds,
  (c.loop-number.invariant.0.table, (still-below c.loop-number.invariant.0.extends c.requires.1.1, omega (arith, c.loop-number-test.true))),
)

pub shape_of-work-then-is_err : goal.shape_of-work-then-is_err
shape_of-work-then-is_err c = still-long c.requires.0 (extends-trans c.loop-number.invariant.0.extends c.offer_cast-c.ensures.extends)

pub returns-then-is_err : goal.returns-then-is_err
returns-then-is_err c = casting-refused c.args.context (probs c.args.sat c.args.dissat)
    c.requires.0 c.requires.1.1 c.loop-number.invariant.0 (omega (arith, c.loop-number-test.true)) c.offer_cast-c.ensures (is-refused c.offer_cast-c.result.end c.is_err.ensures.value c.if-is_err.true).1

pub shape_of-work : goal.shape_of-work
shape_of-work c = still-long c.requires.0 c.loop-number.invariant.0.extends

pub returns : goal.returns
returns c = casting-ends c.args.context (probs c.args.sat c.args.dissat) c.loop-number.invariant.0 (omega (arith, c.loop-number-test.false)) c.loop-number.invariant.1

pub loop-number-preserved : goal.loop-number-preserved
loop-number-preserved c = (
  elim c.if-castable.branch [
    | then-castable+else-is_err w ↦
        casting-offered c.args.context (probs c.args.sat c.args.dissat) c.requires.0 c.requires.1.1 c.loop-number.invariant.0 (omega (arith, c.loop-number-test.true))
        w.offer_cast-c.ensures (is-done w.offer_cast-c.result.end w.is_err.ensures.value w.if-is_err.false) w.work-is w.table-is
    | else-castable w ↦
        casting-passed c.args.context (probs c.args.sat c.args.dissat) c.requires.0 c.requires.1.1 c.loop-number.invariant.0 (omega (arith, c.loop-number-test.true))
        (sym c.castable.ensures ∙ w.if-castable.false) w.work-is w.table-is
  ],
  omega (arith, c.loop-number-test.true),
)
