use Rattle.variables.proofs.Walking.{ends-later}
use Rattle.variables.proofs.TreeGathering.{tree-begin, tree-fits, tree-more, tree-done}
use native.Mathlib.Omega.{arith}
use Rattle.variables.proofs.add_tree.Goals as goal

pub loop-at-init : goal.loop-at-init
loop-at-init c = tree-begin c.args.tree.now c.args.t c.requires.1

pub own_of-own-requires : goal.own_of-own-requires
own_of-own-requires c = tree-fits c.loop-at.invariant c.requires.0.rows c.loop-at-test.true c.record_end-end.ensures

pub add_own-all-requires : goal.add_own-all-requires
add_own-all-requires c = (c.loop-at.invariant.room, (c.own_of-own.ensures.few, c.own_of-own.ensures.long))

pub loop-at-smaller : goal.loop-at-smaller
loop-at-smaller c = omega (arith, ends-later c.loop-at.invariant.on c.requires.0.rows c.loop-at-test.true c.record_end-end.ensures, c.loop-at-test.true)

pub loop-at-preserved : goal.loop-at-preserved
loop-at-preserved c = tree-more c.loop-at.invariant c.requires.0.rows c.loop-at-test.true c.record_end-end.ensures c.own_of-own.ensures c.add_own-all.ensures.gathered c.add_own-all.ensures.roomy

pub returns : goal.returns
returns c = record {
  gathered = λ f r l g. tree-done c.loop-at.invariant r c.loop-at-test.false l g;
  roomy = c.loop-at.invariant.room;
}
