-- `words::word_of_float` meets its contract: what differs from itself is a NaN, whose bits compute to the one pattern. Assumes nothing.
use mathlib.Core.Path.{sym, ap}
use lib.Ieee.{to_bits}
use Rattle.words.specs.Floats.{word_of_float}
use Rattle.words.proofs.Floats.{is-nan, no_nan}
use Rattle.words.proofs.word_of_float.Goals as goal

pub returns-then-x : goal.returns-then-x
unfolding to_bits
returns-then-x c = ap word_of_float (sym (is-nan c.args.x c.if-x.true))

pub float_to_bits-result : goal.float_to_bits-result
float_to_bits-result c = no_nan c.args.x c.if-x.false
