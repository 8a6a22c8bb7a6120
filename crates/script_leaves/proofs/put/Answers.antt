-- `script_leaves::put` meets its contract: the store, or a byte that falls away. Assumes nothing.
use native.Mathlib.Omega.{arith}
use Rattle.script_leaves.proofs.Laws.{past-laid}
use Rattle.script_leaves.proofs.put.Goals as goal
use Rattle.script_leaves.proofs.put.Goals.{then-at-out, else-at-out}

pub returns : goal.returns
returns c =
    elim c.if-at-out.branch [
      | then-at-out w ↦ record { is = w.out-is; ends = omega arith; short = omega arith }
      | else-at-out w ↦ rw w.out-is (past-laid c.args.out.now c.args.at c.args.b _ (omega arith) (omega arith) (omega arith))
    ]
