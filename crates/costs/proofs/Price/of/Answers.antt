-- `costs::Price::of` meets its contract: what is a cost is finite below infinity. Assumes nothing.
use Rattle.std.proofs.Common.{sym, ◌∙◌}
use lib.Ieee.{div, of_bits}
use Rattle.costs.proofs.Told.{price-finite, price-never}
use Rattle.costs.proofs.Price.of.Goals as goal

pub returns-then-x : goal.returns-then-x
unfolding div of_bits
returns-then-x c = price-finite c.args.x (sym c.is_cost.ensures ∙ c.if-not-is_cost.false) c.if-x.true

pub returns-else-x : goal.returns-else-x
unfolding div of_bits
returns-else-x c = price-never c.args.x (sym c.is_cost.ensures ∙ c.if-not-is_cost.false) c.if-x.false
