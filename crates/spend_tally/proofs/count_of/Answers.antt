-- `spend_tally::count_of` meets its contract: one report more at a time. Assumes nothing.
use native.Mathlib.Omega.{arith}
use Rattle.spend_tally.proofs.Counts.{none-counted, one-counted, at_most_one, all-counted}
use Rattle.spend_tally.proofs.count_of.Goals as goal

pub loop-i-init : goal.loop-i-init
loop-i-init c = (omega arith, none-counted _ _)

pub overflow_add-count : goal.overflow_add-count
overflow_add-count c = omega (arith, c.requires, at_most_one c.verdict_in.result _ c.one_if-count.ensures, c.loop-i.invariant.0)

pub loop-i-preserved : goal.loop-i-preserved
loop-i-preserved c = (omega (arith, at_most_one c.verdict_in.result _ c.one_if-count.ensures), one-counted _ _ _ c.loop-i.invariant.1 c.verdict_in.ensures c.one_if-count.ensures)

pub returns : goal.returns
returns c = all-counted _ _ _ _ c.loop-i.auto.i-end c.loop-i-test.false c.loop-i.invariant.1
