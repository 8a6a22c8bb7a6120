-- `spend_judge::small_end` meets its contract: the byte in front says whether a stack follows. Assumes nothing.
use native.Mathlib.Omega.{arith}
use borrow.Author.Tests.{eq-eqb}
use mathlib.Core.Path.{sym, ◌∙◌, ap}
use Rattle.spend_machine.specs.Verdicts.{small_end}
use Rattle.spend_judge.proofs.Entries.{end_later}
use Rattle.spend_judge.proofs.Judging.{end-aborts, end_leaves, past-leaves}
use Rattle.spend_judge.proofs.small_end.Goals as goal

pub bounds-log-at : goal.bounds-log-at
bounds-log-at c = omega (arith, end_later c.args.log.now c.args.at, c.requires)

pub returns-then-log-at-eq-ABORT : goal.returns-then-log-at-eq-ABORT
returns-then-log-at-eq-ABORT c = eq-eqb _ _ c.if-log-at-eq-ABORT.true ∙ sym (ap small_end (end-aborts c.args.log.now c.args.at c.if-log-at-eq-ABORT.true))

pub overflow_add-at : goal.overflow_add-at
overflow_add-at c = omega (arith, end_later c.args.log.now c.args.at, c.requires)

pub small_stack-requires : goal.small_stack-requires
small_stack-requires c = past-leaves c.args.log.now c.args.at c.if-log-at-eq-ABORT.false (c.requires)

pub returns-else-log-at-eq-ABORT : goal.returns-else-log-at-eq-ABORT
returns-else-log-at-eq-ABORT c = c.small_stack.ensures ∙ sym (ap small_end (end_leaves c.args.log.now c.args.at c.if-log-at-eq-ABORT.false))
