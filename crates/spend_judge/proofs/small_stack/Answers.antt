-- `spend_judge::small_stack` meets its contract: its count is, and its elements are. Assumes nothing.
use native.Mathlib.Omega.{arith}
use borrow.Author.Tests.{lt-leb}
use mathlib.Core.Path.{◌∙◌}
use Rattle.spend_judge.proofs.Entries.{stack-later}
use Rattle.spend_judge.proofs.Judging.{stack-small, stack-large, stack-lies}
use Rattle.spend_judge.proofs.small_stack.Goals as goal

pub returns-else-n-le-MAX_ELEMENTS : goal.returns-else-n-le-MAX_ELEMENTS
returns-else-n-le-MAX_ELEMENTS c = lt-leb _ _ c.if-n-le-MAX_ELEMENTS.false ∙ stack-large c.args.log.now c.args.at c.u32_or_zero-n.ensures c.if-n-le-MAX_ELEMENTS.false

pub overflow_add-at : goal.overflow_add-at
overflow_add-at c = omega (arith, stack-later c.args.log.now c.args.at, c.requires)

pub small_elements-requires : goal.small_elements-requires
small_elements-requires c = stack-lies c.args.log.now c.args.at c.u32_or_zero-n.ensures (c.requires)

pub returns-then-n-le-MAX_ELEMENTS : goal.returns-then-n-le-MAX_ELEMENTS
returns-then-n-le-MAX_ELEMENTS c = stack-small c.args.log.now c.args.at c.u32_or_zero-n.ensures c.if-n-le-MAX_ELEMENTS.true c.small_elements.ensures
