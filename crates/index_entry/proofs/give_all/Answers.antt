-- `index_entry::give_all` meets its contract. Assumes nothing.
use Rattle.index_entry.proofs.Placing.{all-begins, gives-last, all-last}
use Rattle.index_entry.specs.Building.{Giving}
use mathlib.Core.Path.{◌≡◌, subst}
use Prim.Native.Nat.{ℕ}
use native.Mathlib.Omega.{arith}
use Rattle.index_entry.proofs.give_all.Goals as goal

pub loop-i-init : goal.loop-i-init
loop-i-init c = (all-begins c.requires.sized c.requires.first, omega arith)

pub give_places-requires : goal.give_places-requires
give_places-requires c = gives-last c.requires.sized c.loop-i.invariant.0 c.loop-i-test.true c.loop-i.invariant.1

pub loop-i-preserved : goal.loop-i-preserved
loop-i-preserved c = (all-last c.requires.sized c.loop-i.invariant.0 c.loop-i-test.true c.loop-i.invariant.1 c.give_places.ensures, omega (arith, c.loop-i.invariant.1))

pub shape_of-work : goal.shape_of-work
shape_of-work c = c.loop-i.invariant.0.room

pub returns : goal.returns
returns c = let last : c.loop-i.i ≡ 0 = omega (arith, c.loop-i-test.false) in
    subst (λ (n : ℕ). Giving c.args.tree.now c.args.work.now c.loop-i.work c.args.count n) last c.loop-i.invariant.0
