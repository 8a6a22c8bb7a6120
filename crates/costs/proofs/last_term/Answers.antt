use lib.Ieee.{div, of_bits}
use Rattle.costs.proofs.last_term.Goals as goal

pub returns-in-Some-None : goal.returns-in-Some-None
unfolding div of_bits
returns-in-Some-None c = simp (c.in-Some-None.is-1, c.in-Some-None.is-0)
