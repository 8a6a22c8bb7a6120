-- `script_leaves::lay_lock` meets its contract: the number, then the opcode. Assumes nothing.
use Rattle.script_leaves.proofs.Laws.{then-laid}
use Rattle.script_leaves.proofs.lay_lock.Goals as goal

pub returns : goal.returns
returns c = then-laid c.put_number-to.ensures c.put_op.ensures
