-- `script_leaves::put_size_test` meets its contract, a piece after another. Assumes nothing.
use Rattle.script_leaves.proofs.Laws.{then-laid, laid_as}
use Rattle.script_leaves.proofs.Pushes.{number-32}
use Rattle.script_leaves.proofs.put_size_test.Goals as goal

pub returns : goal.returns
returns c = then-laid (then-laid c.put-push.ensures (laid_as number-32 c.put_number-verify.ensures)) c.put.ensures
