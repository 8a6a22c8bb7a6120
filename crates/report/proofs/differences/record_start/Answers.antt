-- `report::differences::record_start` meets its contract: each turn goes one record on. Assumes nothing.
use Rattle.std.proofs.Common.{arith}
use Rattle.report.proofs.Rooms.{first-start, next_start}
use Rattle.report.proofs.differences.record_start.Goals as goal

pub loop-n-init : goal.loop-n-init
loop-n-init c = (omega arith, first-start c.args.tree.now)

pub loop-n-preserved : goal.loop-n-preserved
loop-n-preserved c =
    (omega (arith, c.loop-n-test.true), next_start c.args.tree.now c.loop-n.n c.loop-n.invariant.1 c.record_end-at.ensures)
