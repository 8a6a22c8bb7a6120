-- `index_entry::fill` meets its contract. Assumes nothing.
use Rattle.index_entry.proofs.Filling.{fill_begins, fill-next, fill_more}
use mathlib.Core.Path.{◌≡◌}
use native.Mathlib.Omega.{arith}
use Rattle.index_entry.proofs.fill.Goals as goal

pub loop-i-init : goal.loop-i-init
loop-i-init c = (fill_begins _ _ _, omega arith)

pub fill_record-requires : goal.fill_record-requires
fill_record-requires c = fill-next c.requires c.loop-i.invariant.0 c.loop-i-test.true

pub loop-i-preserved : goal.loop-i-preserved
loop-i-preserved c = (fill_more c.requires c.loop-i.invariant.0 c.loop-i-test.true c.fill_record.ensures, omega (arith, c.loop-i-test.true))

pub shape_of-work : goal.shape_of-work
shape_of-work c = c.loop-i.invariant.0.room

pub returns : goal.returns
returns c = let last : c.loop-i.i ≡ c.args.count = omega (arith, c.loop-i.invariant.1, c.loop-i-test.false) in
    rw (← last) c.loop-i.invariant.0
