-- `index_entry::load` meets its contract. Assumes nothing.
use mathlib.Core.Path.{◌≡◌}
use native.Mathlib.Omega.{arith}
use Rattle.index_entry.proofs.Records.{load-begins, load-more}
use Rattle.index_entry.proofs.load.Goals as goal

pub loop-j-init : goal.loop-j-init
loop-j-init c = (load-begins _ _ _, omega arith)

pub offset_bounds-numbers-j : goal.offset_bounds-numbers-j
offset_bounds-numbers-j c = omega (arith, c.requires.1, c.loop-j-test.true)

pub bounds-numbers-j : goal.bounds-numbers-j
bounds-numbers-j c = omega (arith, c.requires.1, c.loop-j-test.true)

pub subtree_at-requires : goal.subtree_at-requires
subtree_at-requires c = (c.requires.0, c.requires.2 c.loop-j.j c.loop-j-test.true)

pub offset_bounds-out-j : goal.offset_bounds-out-j
offset_bounds-out-j c = omega (arith, c.requires.1, c.loop-j-test.true)

pub bounds-out-j : goal.bounds-out-j
bounds-out-j c = omega (arith, c.requires.1, c.loop-j-test.true)

pub loop-j-preserved : goal.loop-j-preserved
loop-j-preserved c = (
  load-more c.loop-j.invariant.0 (omega (arith, c.requires.1, c.loop-j-test.true)) (omega (arith, c.requires.1, c.loop-j-test.true)) c.subtree_at.ensures,
  omega (
    arith,
    c.loop-j-test.true,
  ),
)

pub returns : goal.returns
returns c = let last : c.loop-j.j ≡ c.args.n = omega (arith, c.loop-j.invariant.1, c.loop-j-test.false) in
    rw (← last) c.loop-j.invariant.0.are
