use Rattle.variables.proofs.OwnCodes.{own-begin, own-more, own-done}
use native.Mathlib.Omega.{arith}
use Rattle.variables.proofs.add_own.Goals as goal

pub loop-j-init : goal.loop-j-init
loop-j-init c = own-begin c.args.t c.args.own.list c.args.own.n c.requires.0

pub loop-j-preserved : goal.loop-j-preserved
loop-j-preserved c = own-more c.loop-j.invariant (omega (arith, c.requires.1.1, c.requires.1.0)) c.loop-j-test.true c.add-all.ensures.value c.add-all.ensures.roomy

pub returns : goal.returns
returns c = record {
  gathered = own-done c.loop-j.invariant (omega (arith, c.requires.1.1, c.requires.1.0)) c.loop-j-test.false;
  roomy = c.loop-j.invariant.room;
}
