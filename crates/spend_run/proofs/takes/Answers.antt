-- `spend_run::takes` meets its contract. Assumes nothing.
use mathlib.Core.Path.{sym, ◌∙◌}
use Rattle.spend_run.proofs.Turning.{top-going, top-not}
use Rattle.spend_run.proofs.takes.Goals as goal

pub top_true-requires : goal.top_true-requires
top_true-requires c = c.requires

pub returns-then-is_going : goal.returns-then-is_going
returns-then-is_going c = top-going c.args.log.now c.args.main.now c.args.m (sym c.is_going.ensures ∙ c.if-is_going.true) c.top_true.ensures

pub returns-else-is_going : goal.returns-else-is_going
returns-else-is_going c alt = c.if-is_going.false ∙ top-not c.args.log.now c.args.main.now c.args.m (sym c.is_going.ensures ∙ c.if-is_going.false) alt
