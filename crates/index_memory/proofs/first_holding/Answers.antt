-- `index_memory::first_holding` meets its contract. Assumes nothing.
use mathlib.Core.Path.{sym, ◌∙◌}
use native.Mathlib.Omega.{arith}
use Rattle.index_memory.specs.Looking.{first, nowhere}
use Rattle.index_memory.proofs.Lookups.{first-begins, first_more}
use Rattle.index_memory.proofs.first_holding.Goals as goal

pub loop-i-init : goal.loop-i-init
loop-i-init c = first-begins _ _

pub returns-then-holds : goal.returns-then-holds
returns-then-holds c = first c.loop-i-test.true c.loop-i.invariant (sym c.holds.ensures ∙ c.if-holds.true)

pub loop-i-preserved : goal.loop-i-preserved
loop-i-preserved c = first_more _ _ _ c.loop-i.invariant (sym c.holds.ensures ∙ c.if-holds.false)

pub returns : goal.returns
returns c = nowhere (λ k h. c.loop-i.invariant k (omega arith))
