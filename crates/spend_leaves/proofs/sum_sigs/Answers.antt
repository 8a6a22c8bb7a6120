-- `spend_leaves::sum_sigs` meets its contract: the keys still to come are run after those before them. Assumes nothing.
use native.Mathlib.Omega.{arith}
use lib.Dec.{eqb}
use Rattle.script_leaves.proofs.Keys.{all_there, key-there, others-there}
use Rattle.spend_log.specs.Places.{tables_in}
use Rattle.spend_leaves.proofs.Laws.{◌⨾◌, word}
use Rattle.spend_leaves.proofs.Multis.{all-coming, more-coming, none-coming, sig-first, sig-next, sig-end}
use Rattle.spend_leaves.proofs.sum_sigs.Goals as goal

pub loop-j-init : goal.loop-j-init
loop-j-init c = let its-tables = tables_in c.args.log.now c.args.head in (
  all-coming (sig-first c.args.context its-tables c.args.bytes.now c.args.count) c.requires.0,
  all_there c.args.context its-tables c.args.bytes.now
      c.args.count 0 c.requires.1,
)

pub push_key-a-requires : goal.push_key-a-requires
push_key-a-requires c = let its-tables = tables_in c.args.log.now c.args.head in (
  c.loop-j.invariant.0.fits,
  key-there c.args.context its-tables c.args.bytes.now c.args.count c.loop-j.j _ c.key_at-i.ensures c.loop-j-test.true
      c.loop-j.invariant.1,
)

pub check_next-r-requires : goal.check_next-r-requires
check_next-r-requires c = c.push_key-a.ensures.fits

pub loop-j-preserved : goal.loop-j-preserved
loop-j-preserved c = let its-tables = tables_in c.args.log.now c.args.head in (
  more-coming c.loop-j.invariant.0 (sig-next c.args.context its-tables c.args.bytes.now c.args.count c.loop-j.j c.key_at-i.ensures
      c.loop-j-test.true) (c.push_key-a.ensures ⨾ word c.args.context its-tables c.check_next-r.ensures),
  others-there c.args.context its-tables c.args.bytes.now
      c.args.count c.loop-j.j c.loop-j-test.true c.loop-j.invariant.1,
)

pub shape_of-main : goal.shape_of-main
shape_of-main c = c.loop-j.invariant.0.same

pub returns : goal.returns
returns c = let its-tables = tables_in c.args.log.now c.args.head in
    none-coming c.loop-j.invariant.0 (sig-end c.args.context its-tables c.args.bytes.now c.args.count (eqb c.loop-j.j 0) c.loop-j.j
    (omega arith))
