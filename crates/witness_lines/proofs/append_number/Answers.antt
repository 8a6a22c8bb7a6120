-- `witness_lines::append_number` meets its contract: a space, and the digits that std's formatting spells. Assumes nothing.
use mathlib.Core.Path.{◌∙◌}
use Rattle.witness_lines.proofs.Blocks.{text-shown}
use Rattle.witness_lines.proofs.append_number.Goals as goal

pub returns : goal.returns
returns c =
    text-shown c.args.n _ c.ranges.n.fits (c.as_bytes-text.ensures.value ∙ c.format.ensures.text) c.copy_from_slice.ensures.after c.append-spaced.ensures c.append_digits.ensures
