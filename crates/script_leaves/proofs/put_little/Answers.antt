-- `script_leaves::put_little` meets its contract: the bytes still to come are laid after those before them. Assumes nothing.
use Prim.Native.Nat.{◌-◌}
use Rattle.words.specs.Bytes as Little
use Rattle.script_leaves.proofs.Laws.{all-coming, more-coming, none-coming}
use Rattle.script_leaves.proofs.Pushes.{little-first, little-next, little-none}
use native.Mathlib.Omega.{arith}
use Rattle.script_leaves.proofs.put_little.Goals as goal

pub loop-i-init : goal.loop-i-init
loop-i-init c = (all-coming (Little.bytes_of (c.args.width - 0) c.args.n) (little-first c.args.width c.args.n) (omega arith) (omega arith), omega arith)

pub overflow_cast-rest : goal.overflow_cast-rest
overflow_cast-rest c = omega arith

pub loop-i-preserved : goal.loop-i-preserved
loop-i-preserved c = (more-coming (little-next c.args.width c.loop-i.i c.loop-i.rest (omega arith)) c.loop-i.invariant.0 c.put-to.ensures, omega arith)

pub shape_of-out : goal.shape_of-out
shape_of-out c = c.loop-i.invariant.0.long

pub returns : goal.returns
returns c = none-coming (little-none c.args.width c.loop-i.i c.loop-i.rest (omega arith)) c.loop-i.invariant.0
