-- `script_leaves::lay_pk_k` meets its contract: the key, then the VERIFY. Assumes nothing.
use Rattle.script_leaves.proofs.Laws.{then-laid}
use Rattle.script_leaves.proofs.lay_pk_k.Goals as goal

pub returns : goal.returns
returns c = then-laid c.put_key-to.ensures c.put_verify.ensures
