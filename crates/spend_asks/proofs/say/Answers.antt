-- `spend_asks::say` meets its contract. Assumes nothing.
use mathlib.Core.Path.{ap}
use Rattle.spend_asks.specs.Answers.{said_by}
use Rattle.spend_asks.proofs.say.Goals as goal

pub returns-in-Missing : goal.returns-in-Missing
returns-in-Missing c = ap said_by (rw c.in-Missing.is at c.ask-a.ensures)

pub returns-in-No : goal.returns-in-No
returns-in-No c = ap said_by (rw c.in-No.is at c.ask-a.ensures)

pub returns-in-Yes : goal.returns-in-Yes
returns-in-Yes c = ap said_by (rw c.in-Yes.is at c.ask-a.ensures)

pub returns-in-Digest : goal.returns-in-Digest
returns-in-Digest c = ap said_by (rw c.in-Digest.is at c.ask-a.ensures)
