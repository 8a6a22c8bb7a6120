-- `choice::choose` meets its contract: it goes from the last entry to the first, as the definition does, with the best of those passed.
-- Assumes nothing.
use native.Mathlib.Omega.{arith}
use Rattle.definition.specs.Tables.{probs}
use Rattle.choice.proofs.Choosing.{choosing-starts, choosing-on, choosing-ends}
use Rattle.choice.proofs.choose.Goals as goal

pub loop-i-init : goal.loop-i-init
loop-i-init c = choosing-starts c.args.work.now c.args.s (probs c.args.sat c.args.dissat) c.args.want c.length_of-i.ensures

pub entry-e-requires : goal.entry-e-requires
entry-e-requires c = (c.requires.0, (c.requires.1.0, omega (arith, c.loop-i.invariant.few)))

pub loop-i-preserved : goal.loop-i-preserved
loop-i-preserved c = choosing-on c.loop-i.invariant c.loop-i-test.true c.entry-e.ensures c.next-best.ensures

pub returns : goal.returns
returns c = choosing-ends c.loop-i.invariant (omega arith) c.requires.1.1
