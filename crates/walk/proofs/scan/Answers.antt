-- `walk::scan` meets its contract: the records passed have their starts stored. Assumes nothing.
use Prim.Native.Nat.{◌<◌}
use mathlib.Core.Path.{refl, ◌∙◌}
use lib.ListN.{length, length-set}
use Rattle.walk.proofs.Scanning.{scan_begins, some_left, ends-later, scan-more, scan-ends}
use native.Mathlib.Omega.{arith}
use Rattle.walk.proofs.scan.Goals as goal

pub loop-at-init : goal.loop-at-init
loop-at-init c = (scan_begins c.args.tree.now c.args.work.now, refl)

pub offset_bounds-work-count : goal.offset_bounds-work-count
offset_bounds-work-count c = let left = some_left c.loop-at.invariant.0 c.requires.0.rows c.loop-at-test.true in
    omega (arith, left, c.requires.0.rows.few)

pub bounds-work-count : goal.bounds-work-count
bounds-work-count c = let left = some_left c.loop-at.invariant.0 c.requires.0.rows c.loop-at-test.true in
    omega (arith, left, c.requires.0.rows.few, c.loop-at.invariant.1, c.requires.1)

pub overflow_add-count : goal.overflow_add-count
overflow_add-count c = let left = some_left c.loop-at.invariant.0 c.requires.0.rows c.loop-at-test.true in
    omega (arith, left, c.requires.0.rows.few)

pub loop-at-smaller : goal.loop-at-smaller
loop-at-smaller c = omega (arith, ends-later c.loop-at.invariant.0 c.requires.0.rows c.loop-at-test.true c.record_end-at.ensures, c.loop-at-test.true)

pub loop-at-preserved : goal.loop-at-preserved
loop-at-preserved c = let room : c.loop-at.count < length c.args.work.now =
    omega (arith, some_left c.loop-at.invariant.0 c.requires.0.rows c.loop-at-test.true, c.requires.0.rows.few, c.requires.1) in (
      scan-more c.loop-at.invariant.0 (λ f rows. some_left c.loop-at.invariant.0 rows c.loop-at-test.true) room c.record_end-at.ensures,
      length-set c.loop-at.work c.loop-at.count _ ∙ c.loop-at.invariant.1,
    )

pub shape_of-work : goal.shape_of-work
shape_of-work c = c.loop-at.invariant.1

pub returns : goal.returns
returns c = scan-ends c.loop-at.invariant.0 c.loop-at-test.false
