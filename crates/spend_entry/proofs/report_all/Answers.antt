-- `spend_entry::report_all` meets its contract: those passed are reported, and the others are still to come. Assumes nothing.
use native.Mathlib.Omega.{arith}
use Rattle.walk.specs.TreeRecords.{fragment_at}
use Rattle.spend_log.specs.Places.{tables_in}
use Rattle.spend_stack.proofs.Memory.{keeps-all, keeps_on, keeps-long}
use Rattle.spend_entry.proofs.Following.{all_come, stands-next, fits_next, more-come, none-come}
use Rattle.spend_entry.proofs.Judged.{still-runs}
use Rattle.spend_entry.proofs.report_all.Goals as goal

pub loop-to-init : goal.loop-to-init
loop-to-init c = let t = tables_in c.args.log.now c.args.head in
    let f = fragment_at c.args.tree.now c.args.root in
    (all_come c.args.context t f c.args.log.now c.args.head.entries c.args.out.now c.requires.1, keeps-all c.args.work.now, omega arith)

pub report_entry-to-requires : goal.report_entry-to-requires
report_entry-to-requires c = let t = tables_in c.args.log.now c.args.head in
    let f = fragment_at c.args.tree.now c.args.root in (
      still-runs c.requires.0 c.loop-to.invariant.1.starts,
      stands-next c.args.context t f c.loop-to.invariant.0 c.loop-to-test.true,
      keeps-long c.requires.2 c.loop-to.invariant.1,
      fits_next c.args.context t f c.loop-to.invariant.0 c.loop-to-test.true c.requires.3,
    )

pub overflow_add-i : goal.overflow_add-i
overflow_add-i c = omega (arith, c.report_entry-to.ensures.reported.onwards, c.report_entry-to.ensures.reported.within, c.loop-to.invariant.2)

pub loop-to-smaller : goal.loop-to-smaller
loop-to-smaller c = omega (arith, c.report_entry-to.ensures.reported.onwards, c.report_entry-to.ensures.reported.within)

pub loop-to-preserved : goal.loop-to-preserved
loop-to-preserved c = let t = tables_in c.args.log.now c.args.head in
    let f = fragment_at c.args.tree.now c.args.root in (
      more-come c.args.context t f c.loop-to.invariant.0 c.loop-to-test.true c.report_entry-to.ensures.reported,
      keeps_on c.loop-to.invariant.1 c.report_entry-to.ensures.keeps,
      omega (arith, c.report_entry-to.ensures.reported.onwards, c.loop-to.invariant.2),
    )

pub shape_of-work : goal.shape_of-work
shape_of-work c = c.loop-to.invariant.1.same

pub shape_of-out : goal.shape_of-out
shape_of-out c = c.loop-to.invariant.0.same

pub returns : goal.returns
returns c = let t = tables_in c.args.log.now c.args.head in
    let f = fragment_at c.args.tree.now c.args.root in
    record {
      out_after = none-come c.args.context t f c.loop-to.invariant.0 c.loop-to-test.false;
      keeps = c.loop-to.invariant.1;
    }
