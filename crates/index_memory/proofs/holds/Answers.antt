-- `index_memory::holds` meets its contract. Assumes nothing.
use mathlib.Core.Path.{refl, ◌∙◌}
use native.Mathlib.Omega.{arith}
use borrow.Author.Tests.{lt-leb}
use Rattle.index_memory.proofs.Lookups.{before-it, in-range}
use Rattle.index_memory.proofs.holds.Goals as goal

pub returns-then-first-at : goal.returns-then-first-at
returns-then-first-at c = in-range _ _ _ c.first_at-first.ensures c.size_at.ensures.0 c.if-first-at.true refl

pub returns-else-first-at : goal.returns-else-first-at
returns-else-first-at c =
    lt-leb c.first_at-first.result c.args.at (omega arith) ∙ before-it c.args.work.now c.args.i c.args.at (omega (arith, c.first_at-first.ensures))
