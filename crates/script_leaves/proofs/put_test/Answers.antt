-- `script_leaves::put_test` meets its contract: the test, or its VERIFY form. Assumes nothing.
use Rattle.script_leaves.proofs.Laws.{laid_as}
use Rattle.script_leaves.proofs.Pushes.{test_on, test-off}
use Rattle.script_leaves.proofs.put_test.Goals as goal

pub returns-then-verified : goal.returns-then-verified
returns-then-verified c = laid_as (test_on c.args.n c.args.verified c.if-verified.true) c.put.ensures

pub returns : goal.returns
returns c = laid_as (test-off c.args.n c.args.verified c.if-verified.false) c.put-2.ensures
