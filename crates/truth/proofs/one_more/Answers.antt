use Rattle.truth.proofs.PlaneLaws.{one-begin, one-next, one-done}
use Rattle.truth.proofs.one_more.Goals as goal

pub loop-t-init : goal.loop-t-init
loop-t-init c = one-begin c.args.c.planes c.args.x c.requires

pub loop-t-preserved : goal.loop-t-preserved
loop-t-preserved c = one-next c.loop-t.invariant c.loop-t-test.true

pub returns : goal.returns
returns c = one-done c.loop-t.invariant c.loop-t-test.false
