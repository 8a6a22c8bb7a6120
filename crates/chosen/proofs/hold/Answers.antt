-- `chosen::hold` meets its contract: after i turns i words are filled. Assumes nothing.
use mathlib.Core.Path.{sym, ◌∙◌}
use native.Mathlib.Omega.{arith}
use lib.ListN.{length-set}
use Rattle.chosen.proofs.Filling.{fill-starts, cleared-long, start-long, fill_more, fill-ends}
use Rattle.chosen.proofs.hold.Goals as goal

pub loop-i-init : goal.loop-i-init
loop-i-init c = (
  fill-starts c.args.bytes.now c.args.n c.args.work.now _ c.clear.ensures c.requires.work_len.0,
  start-long c.args.bytes.now c.args.n c.args.work.now _ c.clear.ensures c.requires.work_len.0,
  omega arith,
)

pub loop-i-preserved : goal.loop-i-preserved
loop-i-preserved c = (
  fill_more c.args.bytes.now c.args.n c.loop-i.work c.loop-i.i c.loop-i.invariant.0 (omega arith) (omega arith) _ c.u64_or_zero.ensures,
  simp length-set c.loop-i.invariant.1,
  omega arith,
)

pub shape_of-work : goal.shape_of-work
shape_of-work c = c.loop-i.invariant.1 ∙ sym c.requires.work_len.0

pub returns : goal.returns
returns c = fill-ends c.args.bytes.now c.args.n c.loop-i.work c.loop-i.i c.loop-i.invariant.0 c.loop-i.invariant.1 (omega arith) (omega arith) (omega arith) c.requires.bytes_value
