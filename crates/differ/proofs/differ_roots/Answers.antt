-- `differ::differ_roots` meets its contract: the first run counts and writes nothing, the second writes what fits. Assumes nothing.
use native.Mathlib.Omega.{arith}
use Rattle.differ.specs.Differences.{differences}
use Rattle.differ.specs.Records.{numbered_at}
use Rattle.differ.proofs.Walking.{few-told}
use Rattle.differ.proofs.Promised.{fits, too_many}
use Rattle.differ.proofs.differ_roots.Goals as goal

pub overflow_mul-count : goal.overflow_mul-count
overflow_mul-count c = omega (arith, few-told c.requires c.differ_at-count.ensures)

pub returns-then-out-count : goal.returns-then-out-count
returns-then-out-count c = too_many (differences (numbered_at c.args.left.now c.args.i) (numbered_at c.args.right.now c.args.j)) c.args.out.now c.differ_at-count.ensures c.if-out-count.true

pub returns : goal.returns
returns c = fits (differences (numbered_at c.args.left.now c.args.i) (numbered_at c.args.right.now c.args.j)) c.args.out.now c.differ_at-count.ensures c.if-out-count.false
    c.differ_at.ensures
