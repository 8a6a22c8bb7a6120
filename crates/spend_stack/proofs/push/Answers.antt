-- `spend_stack::push` meets its contract. Assumes nothing.
use mathlib.Core.Path.{sym, ◌∙◌}
use Rattle.spend_stack.proofs.Laws.{pushes, no-push}
use Rattle.spend_stack.proofs.push.Goals as goal

pub returns-then-is_going : goal.returns-then-is_going
returns-then-is_going c = pushes (sym c.is_going.ensures ∙ c.if-is_going.true) c.over.ensures

pub returns : goal.returns
returns c = no-push (sym c.is_going.ensures ∙ c.if-is_going.false) c.requires
