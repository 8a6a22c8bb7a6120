-- `spend_judge::judge_stack` meets its contract: the byte in front says whether a stack follows, which is the same or not. Assumes nothing.
use native.Mathlib.Omega.{arith}
use mathlib.Core.Path.{sym, ◌∙◌}
use Rattle.spend_judge.proofs.Entries.{end_later}
use Rattle.spend_judge.proofs.Judging.{past-leaves, stack-aborts, stack-agrees, stack-differs}
use Rattle.spend_judge.proofs.judge_stack.Goals as goal

pub bounds-log-at : goal.bounds-log-at
bounds-log-at c = omega (arith, end_later c.args.log.now c.args.at, c.requires.0)

pub returns-then-log-at-eq-ABORT : goal.returns-then-log-at-eq-ABORT
returns-then-log-at-eq-ABORT c = λ a. stack-aborts c.args.log.now c.args.at c.args.main.now c.args.n a c.if-log-at-eq-ABORT.true

pub overflow_add-at : goal.overflow_add-at
overflow_add-at c = omega (arith, end_later c.args.log.now c.args.at, c.requires.0)

pub same_stack-requires : goal.same_stack-requires
same_stack-requires c = (past-leaves c.args.log.now c.args.at c.if-log-at-eq-ABORT.false c.requires.0, c.requires.1, c.requires.2)

pub returns-then-same_stack : goal.returns-then-same_stack
returns-then-same_stack c = λ a. stack-agrees c.args.log.now c.args.at c.args.main.now c.args.n a c.if-log-at-eq-ABORT.false (sym c.if-same_stack.true ∙ c.same_stack.ensures)

pub returns : goal.returns
returns c = λ a. stack-differs c.args.log.now c.args.at c.args.main.now c.args.n a c.if-log-at-eq-ABORT.false (sym c.if-same_stack.false ∙ c.same_stack.ensures)
