-- `index_view::depth` meets its contract: each turn counts one record more, if it holds the byte. Assumes nothing.
use native.Mathlib.Omega.{arith}
use Rattle.index_view.proofs.Holding.{all-ahead, counted-on, none-counted}
use Rattle.index_view.proofs.depth.Goals as goal
use Rattle.index_view.proofs.depth.Goals.{then-holds, else-holds}

pub loop-k-init : goal.loop-k-init
loop-k-init c = (c.entries-n.ensures, omega arith, omega (arith, c.entries-n.ensures, c.requires), all-ahead c.args.index.now c.entries-n.ensures c.args.i c.args.at)

pub loop-k-preserved : goal.loop-k-preserved
loop-k-preserved c =
    elim c.if-holds.branch [
      | then-holds w ↦
          let step = counted-on c.args.index.now c.args.at c.loop-k.k c.loop-k-test.true c.loop-k.deep {x = 1} c.holds.ensures (rw w.if-holds.true) c.loop-k.invariant.3 in
          (c.loop-k.invariant.0, omega arith, omega arith, omega (arith, step))
      | else-holds w ↦
          let step = counted-on c.args.index.now c.args.at c.loop-k.k c.loop-k-test.true c.loop-k.deep {x = 0} c.holds.ensures (rw w.if-holds.false) c.loop-k.invariant.3 in
          (c.loop-k.invariant.0, omega arith, omega arith, omega (arith, step))
    ]

pub returns : goal.returns
returns c = omega (arith, none-counted c.args.index.now c.args.at c.loop-k.k c.loop-k-test.false, c.loop-k.invariant.3)
