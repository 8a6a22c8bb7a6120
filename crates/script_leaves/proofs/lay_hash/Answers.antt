-- `script_leaves::lay_hash` meets its contract, a piece after another. Assumes nothing.
use Rattle.script_leaves.proofs.Laws.{then-laid}
use Rattle.script_leaves.proofs.lay_hash.Goals as goal

pub returns : goal.returns
returns c = then-laid (then-laid (then-laid c.put_size_test-hash.ensures c.put-push.ensures) c.put_entry-test.ensures) c.put_test.ensures
