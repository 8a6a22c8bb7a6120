-- `words::float_of_word` meets its contract: a word above infinity's is a NaN, and any other is not. Assumes nothing.
use mathlib.Core.Path.{sym}
use lib.Ieee.{div, of_bits}
use Rattle.words.proofs.Floats.{above-infinity, not-above}
use Rattle.words.proofs.float_of_word.Goals as goal

pub returns-then-magnitude-gt-INFINITY_WORD : goal.returns-then-magnitude-gt-INFINITY_WORD
unfolding div of_bits
returns-then-magnitude-gt-INFINITY_WORD c = sym (above-infinity c.args.w c.if-magnitude-gt-INFINITY_WORD.true)

pub float_from_bits-result : goal.float_from_bits-result
float_from_bits-result c = not-above c.args.w c.if-magnitude-gt-INFINITY_WORD.false
