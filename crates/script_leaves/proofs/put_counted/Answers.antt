-- `script_leaves::put_counted` meets its contract: the number, then the test. Assumes nothing.
use Rattle.script_leaves.proofs.Laws.{then-laid}
use Rattle.script_leaves.proofs.put_counted.Goals as goal

pub returns : goal.returns
returns c = then-laid c.put_number-to.ensures c.put_test.ensures
