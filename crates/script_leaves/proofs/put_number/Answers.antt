-- `script_leaves::put_number` meets its contract: 0, 1 to 16, and the width before the bytes. Assumes nothing.
use mathlib.Core.Path.{sym}
use native.Mathlib.Omega.{arith}
use Rattle.script_leaves.proofs.Laws.{then-laid, laid_as}
use Rattle.script_leaves.proofs.Pushes.{number-none, number_small}
use Rattle.script_leaves.proofs.put_number.Goals as goal

pub returns-then-n-eq0 : goal.returns-then-n-eq0
returns-then-n-eq0 c = laid_as (number-none c.args.n c.if-n-eq0.true) c.put.ensures

pub returns-then-n-le16 : goal.returns-then-n-le16
returns-then-n-le16 c = laid_as (number_small c.args.n (omega arith) (omega arith)) c.put-then-n-le16.ensures

pub returns : goal.returns
returns c = laid_as (sym c.width_of-width.ensures) (then-laid c.put-to.ensures c.put_little.ensures)
