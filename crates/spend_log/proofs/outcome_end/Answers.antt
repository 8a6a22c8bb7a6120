-- `spend_log::outcome_end` meets its contract: the byte in front decides. Assumes nothing.
use Rattle.spend_log.proofs.Parts.{outcome-missing, outcome-no, outcome-yes, outcome-digest, outcome-other}
use mathlib.Core.Path.{◌∙◌}
use Rattle.spend_log.proofs.outcome_end.Goals as goal

pub returns-then-log-at : goal.returns-then-log-at
returns-then-log-at c = outcome-missing c.args.log.now c.args.at c.if-log-at.true

pub returns-in-0 : goal.returns-in-0
returns-in-0 c = outcome-no c.args.log.now c.args.at c.if-log-at.false c.in-0.is

pub returns-in-1 : goal.returns-in-1
returns-in-1 c = outcome-yes c.args.log.now c.args.at c.if-log-at.false c.in-1.is

pub returns-in-2 : goal.returns-in-2
returns-in-2 c = c.element_end.ensures ∙ outcome-digest c.args.log.now c.args.at c.if-log-at.false c.in-2.is

pub returns-in_default : goal.returns-in_default
returns-in_default c = outcome-other c.args.log.now c.args.at c.if-log-at.false c.in_default.in_default-own.rest.0.0.1 c.in_default.in_default-own.rest.0.1 c.in_default.in_default-own.rest.1
