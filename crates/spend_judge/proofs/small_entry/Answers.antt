-- `spend_judge::small_entry` meets its contract: each part is. Assumes nothing.
use Rattle.spend_judge.proofs.Judging.{entry_stack, entry-outcomes, entry-end}
use Rattle.spend_judge.proofs.small_entry.Goals as goal

pub returns-then-small_outcomes : goal.returns-then-small_outcomes
returns-then-small_outcomes c = entry-end c.args.log.now c.args.e c.small_stack.ensures c.if-small_stack.true c.small_outcomes.ensures c.if-small_outcomes.true c.small_end.ensures

pub returns-else-small_outcomes : goal.returns-else-small_outcomes
returns-else-small_outcomes c = entry-outcomes c.args.log.now c.args.e c.small_stack.ensures c.if-small_stack.true c.small_outcomes.ensures c.if-small_outcomes.false

pub returns-else-small_stack : goal.returns-else-small_stack
returns-else-small_stack c = entry_stack c.args.log.now c.args.e c.small_stack.ensures c.if-small_stack.false
