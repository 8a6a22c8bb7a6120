-- `script_leaves::lay_pk_h` meets its contract, a piece after another. Assumes nothing.
use Rattle.script_leaves.proofs.Laws.{then-laid}
use Rattle.script_leaves.proofs.lay_pk_h.Goals as goal

pub returns : goal.returns
returns c = then-laid (then-laid c.put_2-front.ensures c.put_entry-to.ensures) c.put_op.ensures
