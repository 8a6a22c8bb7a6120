-- `script_leaves::put_2` meets its contract: one byte after the other. Assumes nothing.
use Rattle.script_leaves.proofs.Laws.{then-laid}
use Rattle.script_leaves.proofs.put_2.Goals as goal

pub returns : goal.returns
returns c = then-laid c.put-to.ensures c.put.ensures
