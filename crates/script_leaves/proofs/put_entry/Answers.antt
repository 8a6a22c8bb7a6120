-- `script_leaves::put_entry` meets its contract: the size, then the bytes of the entry. Assumes nothing.
use native.Mathlib.Omega.{arith}
use Rattle.script_leaves.proofs.Laws.{then-laid, laid_as}
use Rattle.script_leaves.proofs.Pushes.{entry-ends, entry-pushed}
use Rattle.script_leaves.proofs.put_entry.Goals as goal

pub overflow_mul-start : goal.overflow_mul-start
overflow_mul-start c = omega (arith, entry-ends c.args.size c.args.table.now c.args.i c.requires.1)

pub overflow_add-end : goal.overflow_add-end
overflow_add-end c = omega (arith, entry-ends c.args.size c.args.table.now c.args.i c.requires.1)

pub returns : goal.returns
returns c = laid_as (entry-pushed c.args.size c.args.table.now c.args.i c.requires.1 c.requires.0) (then-laid c.put-to.ensures c.put_bytes.ensures)
