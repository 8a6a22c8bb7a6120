-- `spend_log::element_end` meets its contract: its length, and whether so many bytes follow. Assumes nothing.
use mathlib.Core.Path.{sym}
use Rattle.spend_log.proofs.Parts.{element-whole, element-short, element-missing}
use Rattle.spend_log.proofs.element_end.Goals as goal

pub returns-in_err-len : goal.returns-in_err-len
returns-in_err-len c = rw c.from_residual.ensures (element-missing c.args.log.now c.args.at c.requires (sym c.in_err-len.ensures))

pub returns-then-next-log : goal.returns-then-next-log
returns-then-next-log c = element-whole c.args.log.now c.args.at (sym c.in_ok-len.ensures) c.if-next-log.true

pub returns : goal.returns
returns c = element-short c.args.log.now c.args.at (sym c.in_ok-len.ensures) c.if-next-log.false
