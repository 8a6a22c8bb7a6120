-- `spend_judge::same_stack` meets its contract: as many elements, and the same ones. Assumes nothing.
use native.Mathlib.Omega.{arith}
use borrow.Author.Tests.{ne_eqb}
use mathlib.Core.Path.{sym, ◌∙◌}
use Rattle.spend_judge.proofs.Entries.{stack-later}
use Rattle.spend_judge.proofs.Judging.{stack-lies, other-count, same_count}
use Rattle.spend_judge.proofs.same_stack.Goals as goal

pub returns-else-count-n : goal.returns-else-count-n
returns-else-count-n c = ne_eqb _ _ c.if-count-n.false ∙ other-count c.args.log.now c.args.main.now c.args.at c.u32_or_zero-count.ensures c.if-count-n.false

pub overflow_add-at : goal.overflow_add-at
overflow_add-at c = omega (arith, stack-later c.args.log.now c.args.at, c.requires.0)

pub same_elements-requires : goal.same_elements-requires
same_elements-requires c = (stack-lies c.args.log.now c.args.at (sym c.if-count-n.true ∙ c.u32_or_zero-count.ensures) c.requires.0, c.requires.1, c.requires.2)

pub returns-then-count-n : goal.returns-then-count-n
returns-then-count-n c = same_count c.args.log.now c.args.main.now c.args.at c.u32_or_zero-count.ensures c.if-count-n.true c.same_elements.ensures
