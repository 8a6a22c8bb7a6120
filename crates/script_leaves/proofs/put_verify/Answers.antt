-- `script_leaves::put_verify` meets its contract: VERIFY, or nothing. Assumes nothing.
use native.Mathlib.Omega.{arith}
use Rattle.script_leaves.proofs.Laws.{laid_as, none-laid}
use Rattle.script_leaves.proofs.Pushes.{verify-on, verify-off}
use Rattle.script_leaves.proofs.put_verify.Goals as goal

pub returns-then-verified : goal.returns-then-verified
returns-then-verified c = laid_as (verify-on c.args.verified c.if-verified.true) c.put.ensures

pub returns : goal.returns
returns c = laid_as (verify-off c.args.verified c.if-verified.false) (none-laid c.args.out.now c.args.at (omega arith) (omega arith))
