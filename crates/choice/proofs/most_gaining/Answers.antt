-- `choice::most_gaining` meets its contract: it goes over the children with what is still to come. Assumes nothing.
use Rattle.std.proofs.Common.{rules}
use Rattle.definition.specs.Tables.{probs}
use Rattle.choice.proofs.Arranging.{infinite, gaining-starts, gaining-gains, gaining-other, gaining-ends}
use Rattle.choice.proofs.most_gaining.Goals as goal
use Rattle.choice.proofs.most_gaining.Goals.{then-d-least, else-d-least}

pub loop-i-init : goal.loop-i-init
loop-i-init c = gaining-starts c.args.work.now (probs c.args.sat c.args.dissat) c.args.es c.args.ws c.args.n (search rules) (search rules) c.requires _ infinite

pub loop-i-preserved : goal.loop-i-preserved
loop-i-preserved c =
    elim c.if-d-least.branch [
      | then-d-least w ↦ gaining-gains c.loop-i.invariant c.loop-i-test.true c.gain-d.ensures w.if-d-least.true w.best-is w.least-is
      | else-d-least w ↦ gaining-other c.loop-i.invariant c.loop-i-test.true c.gain-d.ensures w.if-d-least.false w.best-is w.least-is
    ]

pub returns : goal.returns
returns c = gaining-ends c.loop-i.invariant c.loop-i-test.false
