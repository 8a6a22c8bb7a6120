use Rattle.costs.proofs.Sums.{Going}
use Rattle.costs.proofs.Cost.sum.Given as goal

abbrev pub invariant-loop-i : goal.invariant-loop-i
invariant-loop-i l = Going l.n l.count l.i l.sum l.subs
