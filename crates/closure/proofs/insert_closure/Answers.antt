-- `closure::insert_closure` meets its contract: the pops that are left, on what waits, give what the closure gives from its start.
-- Assumes nothing.
use native.Mathlib.Omega.{arith}
use Rattle.definition.specs.Tables.{probs}
use Rattle.table.proofs.Kept.{extends-trans}
use Rattle.closure.proofs.Extending.{still-long}
use Rattle.closure.proofs.Offering.{is-refused, is-done}
use Rattle.closure.proofs.Closing.{insert-refused, closure-begins, closing-begins, closing-ends}
use Rattle.closure.proofs.Closing.{closing-spent, closing-refused, closing-goes-on}
use Rattle.closure.proofs.insert_closure.Goals as goal

pub shape_of-work-in-Err : goal.shape_of-work-in-Err
shape_of-work-in-Err c = still-long c.requires.0 c.insert-step.ensures.extends

pub returns-in-Err : goal.returns-in-Err
returns-in-Err c = insert-refused c.args.context (probs c.args.sat c.args.dissat) c.insert-step.ensures c.in-Err.is

pub loop-pops-init : goal.loop-pops-init
loop-pops-init c = closing-begins c.args.context (probs c.args.sat c.args.dissat) c.insert-step.ensures.extends.holds c.insert-step.ensures.table

pub shape_of-work-then-pops-eq-MAX_POPS : goal.shape_of-work-then-pops-eq-MAX_POPS
shape_of-work-then-pops-eq-MAX_POPS c = still-long c.requires.0 (extends-trans c.insert-step.ensures.extends c.loop-pops.invariant.extends)

pub cast_all-c-requires : goal.cast_all-c-requires
cast_all-c-requires c = (c.loop-pops.invariant.extends.holds, (c.loop-pops.invariant.table, omega (arith, c.loop-pops-test.true, c.count.ensures)))

pub shape_of-work-then-is_err : goal.shape_of-work-then-is_err
shape_of-work-then-is_err c = still-long c.requires.0 (extends-trans c.insert-step.ensures.extends (extends-trans c.loop-pops.invariant.extends c.cast_all-c.ensures.extends))

pub loop-pops-preserved : goal.loop-pops-preserved
loop-pops-preserved c = closing-goes-on c.args.context (probs c.args.sat c.args.dissat) c.loop-pops.invariant
    (omega (arith, c.loop-pops-test.true, c.count.ensures)) (omega (arith, c.if-pops-eq-MAX_POPS.false, c.loop-pops.invariant.few)) (omega arith)
    c.cast_all-c.ensures (is-done c.cast_all-c.result.end c.is_err.ensures.value c.if-is_err.false)

pub shape_of-work : goal.shape_of-work
shape_of-work c = still-long c.requires.0 (extends-trans c.insert-step.ensures.extends c.loop-pops.invariant.extends)

pub returns-then-pops-eq-MAX_POPS : goal.returns-then-pops-eq-MAX_POPS
returns-then-pops-eq-MAX_POPS c = closing-spent c.args.context (probs c.args.sat c.args.dissat) c.loop-pops.invariant
    (closure-begins c.args.context (probs c.args.sat c.args.dissat) c.insert-step.ensures c.requires.0
    c.in_default.is c.count-first.ensures)
    (omega (arith, c.loop-pops-test.true, c.count.ensures)) (omega (arith, c.if-pops-eq-MAX_POPS.true))

pub returns-then-is_err : goal.returns-then-is_err
returns-then-is_err c = closing-refused c.args.context (probs c.args.sat c.args.dissat) c.loop-pops.invariant
    (omega (arith, c.loop-pops-test.true, c.count.ensures)) (omega (arith, c.if-pops-eq-MAX_POPS.false, c.loop-pops.invariant.few)) (omega arith)
    c.cast_all-c.ensures (is-refused c.cast_all-c.result.end c.is_err.ensures.value c.if-is_err.true).1
    (closure-begins c.args.context (probs c.args.sat c.args.dissat) c.insert-step.ensures c.requires.0
    c.in_default.is c.count-first.ensures)

pub returns : goal.returns
returns c = closing-ends c.args.context (probs c.args.sat c.args.dissat) c.loop-pops.invariant
    (closure-begins c.args.context (probs c.args.sat c.args.dissat) c.insert-step.ensures c.requires.0
    c.in_default.is c.count-first.ensures)
    (omega (arith, c.loop-pops-test.false, c.count.ensures))
