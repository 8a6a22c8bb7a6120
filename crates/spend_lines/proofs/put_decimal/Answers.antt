-- `spend_lines::put_decimal`: the digits that std's formatting spells are those of the definition. Assumes nothing.
use mathlib.Core.Path.{◌∙◌}
use Rattle.script_leaves.proofs.Laws.{laid_as}
use Rattle.spend_lines.proofs.Digits.{spelled}
use Rattle.spend_lines.proofs.put_decimal.Goals as goal

pub returns : goal.returns
returns c = laid_as (c.as_bytes.ensures.value ∙ c.format.ensures.text ∙ spelled c.args.n c.ranges.n.fits) c.put_bytes.ensures
