use lib.Ieee.{div, neg, of_bits}
use Rattle.costs.proofs.Price.excess.Goals as goal

pub returns-in-Never-other : goal.returns-in-Never-other
unfolding div neg of_bits
returns-in-Never-other c = simp (c.in-Never-other.is, c.in-Finite.is)

pub returns-in-NotACost-other : goal.returns-in-NotACost-other
unfolding div of_bits
returns-in-NotACost-other c = simp (c.in-NotACost-other.is, c.in-Finite.is)

pub returns-in-Never : goal.returns-in-Never
unfolding div of_bits
returns-in-Never c = simp c.in-Never.is

pub returns-in-NotACost : goal.returns-in-NotACost
unfolding div of_bits
returns-in-NotACost c = simp c.in-NotACost.is
