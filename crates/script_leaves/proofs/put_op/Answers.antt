-- `script_leaves::put_op` meets its contract: the opcode, then the VERIFY. Assumes nothing.
use Rattle.script_leaves.proofs.Laws.{then-laid}
use Rattle.script_leaves.proofs.put_op.Goals as goal

pub returns : goal.returns
returns c = then-laid c.put-to.ensures c.put_verify.ensures
