use Rattle.std.proofs.Common.{arith}
use Rattle.costs.proofs.Sums.{goes_on, ends}
use Rattle.costs.proofs.Cost.sum.Goals as goal

pub loop-i-preserved : goal.loop-i-preserved
loop-i-preserved c = goes_on _ _ c.loop-i.invariant (omega arith) (omega arith) c.plus-sum.ensures

pub returns : goal.returns
returns c = ends c.loop-i.invariant (omega arith)
