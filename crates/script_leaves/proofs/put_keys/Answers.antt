-- `script_leaves::put_keys` meets its contract: the keys still to come are laid after those before them. Assumes nothing.
use Rattle.script_leaves.specs.Laying.{only_keys}
use Rattle.script_leaves.proofs.Laws.{all-coming, more-coming, none-coming}
use Rattle.script_leaves.proofs.Keys.{all_there, key-there, others-there, key-first, key-next, key-end}
use native.Mathlib.Omega.{arith}
use Rattle.script_leaves.proofs.put_keys.Goals as goal

pub loop-j-init : goal.loop-j-init
loop-j-init c = let t = only_keys c.args.keys.now in (
  all-coming _ (key-first c.args.context t c.args.bytes.now c.args.count 0) (omega arith) (omega arith),
  all_there c.args.context t c.args.bytes.now c.args.count 0 c.requires,
  omega arith,
)

pub put_key-to-requires : goal.put_key-to-requires
put_key-to-requires c = key-there c.args.context (only_keys c.args.keys.now) c.args.bytes.now c.args.count c.loop-j.j _ c.key_at.ensures c.loop-j-test.true
    c.loop-j.invariant.1

pub loop-j-preserved : goal.loop-j-preserved
loop-j-preserved c = let t = only_keys c.args.keys.now in (
  more-coming (key-next c.args.context t c.args.bytes.now c.args.count c.loop-j.j _ c.key_at.ensures c.loop-j-test.true)
      c.loop-j.invariant.0 c.put_key-to.ensures,
  others-there c.args.context t c.args.bytes.now c.args.count c.loop-j.j c.loop-j-test.true c.loop-j.invariant.1,
  omega arith,
)

pub shape_of-out : goal.shape_of-out
shape_of-out c = c.loop-j.invariant.0.long

pub returns : goal.returns
returns c = none-coming (key-end c.args.context (only_keys c.args.keys.now) c.args.bytes.now c.args.count c.loop-j.j (omega arith))
    c.loop-j.invariant.0
