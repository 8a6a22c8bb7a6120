-- `numerals::bits` meets its contract: by its length and its digits. Assumes nothing.
use mathlib.Core.Path.{sym, ◌∙◌}
use Rattle.numerals.proofs.Digits.{sixteen-digits-fit, bits-read, bits-missing}
use Rattle.numerals.proofs.bits.Goals as goal

pub number_in-requires : goal.number_in-requires
number_in-requires c = sixteen-digits-fit c.args.word.now c.if-word-eq16.true

pub returns-then-word-eq16 : goal.returns-then-word-eq16
returns-then-word-eq16 c = c.number_in.ensures ∙ bits-read c.args.word.now c.if-word-eq16.true

pub returns : goal.returns
returns c = sym (bits-missing c.args.word.now c.if-word-eq16.false)
