-- `spend_leaves::push_keys` meets its contract: the keys still to come are pushed after those before them. Assumes nothing.
use native.Mathlib.Omega.{arith}
use Rattle.script_leaves.proofs.Keys.{all_there, key-there, others-there}
use Rattle.spend_log.specs.Places.{tables_in}
use Rattle.spend_leaves.proofs.Multis.{all-coming, more-coming, none-coming, key-first, key-next, key-end}
use Rattle.spend_leaves.proofs.push_keys.Goals as goal

pub loop-j-init : goal.loop-j-init
loop-j-init c = let its-tables = tables_in c.args.log.now c.args.head in (
  all-coming (key-first c.args.context its-tables c.args.bytes.now c.args.count) c.requires.0,
  all_there c.args.context its-tables c.args.bytes.now
      c.args.count 0 c.requires.1,
)

pub push_key-r-requires : goal.push_key-r-requires
push_key-r-requires c = let its-tables = tables_in c.args.log.now c.args.head in (
  c.loop-j.invariant.0.fits,
  key-there c.args.context its-tables c.args.bytes.now c.args.count c.loop-j.j _ c.key_at-i.ensures c.loop-j-test.true
      c.loop-j.invariant.1,
)

pub loop-j-preserved : goal.loop-j-preserved
loop-j-preserved c = let its-tables = tables_in c.args.log.now c.args.head in (
  more-coming c.loop-j.invariant.0 (key-next c.args.context its-tables c.args.bytes.now c.args.count c.loop-j.j c.key_at-i.ensures c.loop-j-test.true)
      c.push_key-r.ensures,
  others-there c.args.context its-tables c.args.bytes.now c.args.count c.loop-j.j c.loop-j-test.true c.loop-j.invariant.1,
)

pub shape_of-main : goal.shape_of-main
shape_of-main c = c.loop-j.invariant.0.same

pub returns : goal.returns
returns c = let its-tables = tables_in c.args.log.now c.args.head in
    none-coming c.loop-j.invariant.0 (key-end c.args.context its-tables c.args.bytes.now c.args.count c.loop-j.j (omega arith))
