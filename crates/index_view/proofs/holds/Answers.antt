-- `index_view::holds` meets its contract. Assumes nothing.
use mathlib.Core.Path.{◌∙◌}
use native.Mathlib.Omega.{arith}
use borrow.Author.Tests.{lt-leb}
use Rattle.index_view.proofs.Holding.{not_yet, maybe}
use Rattle.index_view.proofs.holds.Goals as goal

pub returns-then-first-at : goal.returns-then-first-at
returns-then-first-at c = maybe c.args.index.now c.args.i c.args.at c.first_of-first.ensures c.length_of-length.ensures c.if-first-at.true

pub returns-else-first-at : goal.returns-else-first-at
returns-else-first-at c =
    lt-leb c.first_of-first.result c.args.at (omega arith) ∙ not_yet c.args.index.now c.args.i c.args.at c.first_of-first.ensures (omega arith)
