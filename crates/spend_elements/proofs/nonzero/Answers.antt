-- `spend_elements::nonzero` meets its contract. Assumes nothing.
use mathlib.Core.Path.{sym}
use Rattle.spend_elements.proofs.Writing.{nonzero-is}
use Rattle.spend_elements.proofs.nonzero.Goals as goal

pub returns : goal.returns
returns c = sym (nonzero-is c.args.a.negative c.args.a.size)
