-- `spend_log::outcomes_end` meets its contract: a count, and so many. Assumes nothing.
use Rattle.spend_log.proofs.Parts.{counted-found, counted-missing}
use Rattle.words.proofs.Bytes.{read-room}
use Rattle.spend_log.specs.Logs.{outcome}
use mathlib.Core.Path.{sym, ◌∙◌}
use Rattle.spend_log.proofs.outcomes_end.Goals as goal

pub returns-in_err-n : goal.returns-in_err-n
returns-in_err-n c = rw c.from_residual.ensures (counted-missing c.args.log.now c.args.at outcome c.requires (sym c.in_err-n.ensures))

pub several_outcomes_end-requires : goal.several_outcomes_end-requires
several_outcomes_end-requires c = read-room 4 _ _ (sym c.in_ok-n.ensures)

pub returns : goal.returns
returns c = c.several_outcomes_end.ensures ∙ sym (counted-found c.args.log.now c.args.at outcome (sym c.in_ok-n.ensures))
