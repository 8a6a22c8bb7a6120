-- `classes::classify` meets its contract: every number passed has its class. Assumes nothing.
use Rattle.classes.proofs.Keep.{class-starts, class-good, class-more, class-ends}
use native.Mathlib.Omega.{arith}
use Rattle.classes.proofs.classify.Goals as goal

pub loop-r-init : goal.loop-r-init
loop-r-init c = class-starts c.args.pol.now

pub put_class-requires : goal.put_class-requires
put_class-requires c = (class-good c.args.pol.now c.loop-r.pol c.loop-r.r c.requires c.loop-r.invariant, c.loop-r-test.true)

pub loop-r-preserved : goal.loop-r-preserved
loop-r-preserved c = class-more c.args.pol.now c.loop-r.pol c.loop-r.r c.requires c.loop-r.invariant c.loop-r-test.true c.put_class.ensures

pub shape_of-pol : goal.shape_of-pol
shape_of-pol c = c.loop-r.invariant.kept.long

pub returns : goal.returns
returns c = class-ends c.args.pol.now c.loop-r.pol c.loop-r.r c.requires c.loop-r.invariant c.loop-r-test.false
