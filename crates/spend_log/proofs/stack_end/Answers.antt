-- `spend_log::stack_end` meets its contract: a count, and so many. Assumes nothing.
use Rattle.spend_log.proofs.Parts.{counted-found, counted-missing, stack-place}
use Rattle.words.proofs.Bytes.{read-room}
use Rattle.spend_log.specs.Logs.{element}
use mathlib.Core.Path.{sym, ◌∙◌}
use Rattle.spend_log.proofs.stack_end.Goals as goal

pub returns-in_err-n : goal.returns-in_err-n
returns-in_err-n c = rw c.from_residual.ensures
    (counted-missing c.args.log.now c.args.at element c.requires (sym c.in_err-n.ensures) ∙ sym (stack-place c.args.log.now c.args.at))

pub elements_end-requires : goal.elements_end-requires
elements_end-requires c = read-room 4 _ _ (sym c.in_ok-n.ensures)

pub returns : goal.returns
returns c = c.elements_end.ensures
    ∙ sym (stack-place c.args.log.now c.args.at ∙ counted-found c.args.log.now c.args.at element (sym c.in_ok-n.ensures))
