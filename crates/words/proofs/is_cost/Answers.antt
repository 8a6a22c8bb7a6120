-- `words::is_cost` meets its contract: no NaN is a cost, and of another float the bits show the sign. Assumes nothing.
use Rattle.std.proofs.Common.{rules}
use mathlib.Core.Path.{sym, ap}
use Rattle.words.specs.Floats.{is_cost}
use Rattle.words.proofs.Floats.{is-nan, no_nan, sign_clear}
use Rattle.words.proofs.is_cost.Goals as goal

pub returns-then-x : goal.returns-then-x
returns-then-x c = sym (ap is_cost (is-nan c.args.x c.if-x.true))

pub float_to_bits-bits : goal.float_to_bits-bits
float_to_bits-bits c = no_nan c.args.x c.if-x.false

pub returns : goal.returns
returns c = sign_clear c.args.x (search rules) (no_nan c.args.x c.if-x.false)
