-- `spend_elements::length_of` meets its contract. Assumes nothing.
use mathlib.Core.Path.{sym, ◌∙◌, ap}
use lib.ListN.{length}
use Rattle.words.proofs.Bytes.{length-bytes}
use Rattle.spend_elements.proofs.Ranges.{in-range, in_place, range_length_lem}
use Rattle.spend_elements.proofs.length_of.Goals as goal

pub returns-then-len-lt-HELD : goal.returns-then-len-lt-HELD
returns-then-len-lt-HELD c = c.range_length.ensures ∙ sym (range_length_lem c.args.log.now c.args.e.at c.args.e.len)
    ∙ sym (ap length (in-range c.args.log.now c.args.e c.if-len-lt-HELD.true))

pub returns : goal.returns
returns c = c.small_length.ensures ∙ sym (length-bytes _ _) ∙ sym (ap length (in_place c.args.log.now c.args.e c.if-len-lt-HELD.false))
