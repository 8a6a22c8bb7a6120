-- `spend_log::ending_end` meets its contract: the byte in front decides. Assumes nothing.
use Rattle.spend_log.proofs.Parts.{ending-missing, ending-abort, ending-stack, ending-other}
use mathlib.Core.Path.{◌∙◌}
use Rattle.spend_log.proofs.ending_end.Goals as goal

pub returns-then-log-at : goal.returns-then-log-at
returns-then-log-at c = ending-missing c.args.log.now c.args.at c.if-log-at.true

pub returns-in-0 : goal.returns-in-0
returns-in-0 c = ending-abort c.args.log.now c.args.at c.if-log-at.false c.in-0.is

pub returns-in-1 : goal.returns-in-1
returns-in-1 c = c.stack_end.ensures ∙ ending-stack c.args.log.now c.args.at c.if-log-at.false c.in-1.is

pub returns-in_default : goal.returns-in_default
returns-in_default c = ending-other c.args.log.now c.args.at c.if-log-at.false c.in_default.in_default-own.rest.0.1 c.in_default.in_default-own.rest.1
