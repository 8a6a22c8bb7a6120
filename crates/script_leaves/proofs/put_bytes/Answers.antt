-- `script_leaves::put_bytes` meets its contract: the bytes still to come are laid after those before them. Assumes nothing.
use mathlib.Core.Path.{refl}
use Rattle.script_leaves.proofs.Laws.{all-coming, more-coming, none-coming}
use Rattle.script_leaves.proofs.Pushes.{bytes_next, bytes-none}
use native.Mathlib.Omega.{arith}
use Rattle.script_leaves.proofs.put_bytes.Goals as goal

pub loop-byte-init : goal.loop-byte-init
loop-byte-init c = all-coming c.args.bytes.now refl (omega arith) (omega arith)

pub loop-byte-preserved : goal.loop-byte-preserved
loop-byte-preserved c = more-coming (bytes_next c.args.bytes.now c.loop-byte.byte-index (omega arith)) c.loop-byte.invariant c.put-to.ensures

pub shape_of-out : goal.shape_of-out
shape_of-out c = c.loop-byte.invariant.long

pub returns : goal.returns
returns c = none-coming (bytes-none c.args.bytes.now c.loop-byte.byte-index (omega arith)) c.loop-byte.invariant
