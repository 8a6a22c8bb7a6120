-- `choice::all_keys` meets its contract: it goes over the children with what is still to come. Assumes nothing.
use native.Mathlib.Omega.{arith}
use Rattle.policies.specs.Array.{policy_at}
use Rattle.choice.proofs.Keys.{telling-starts, telling-on, telling-other, telling-ends}
use Rattle.choice.proofs.all_keys.Goals as goal

pub loop-i-init : goal.loop-i-init
loop-i-init c = telling-starts (policy_at c.args.pol.now c.args.r)

pub returns-then-head_of-ne-KEY : goal.returns-then-head_of-ne-KEY
returns-then-head_of-ne-KEY c = telling-other c.requires.0 c.args.r c.requires.1.0 c.loop-i.invariant (omega (arith, c.requires.1.1.1)) c.child-c.ensures c.head_of.ensures c.if-head_of-ne-KEY.true

pub loop-i-preserved : goal.loop-i-preserved
loop-i-preserved c = telling-on c.requires.0 c.args.r c.requires.1.0 c.loop-i.invariant (omega (arith, c.requires.1.1.1)) c.child-c.ensures c.head_of.ensures c.if-head_of-ne-KEY.false

pub returns : goal.returns
returns c = telling-ends c.loop-i.invariant (omega (arith, c.requires.1.1.1))
