use native.Mathlib.Omega.{arith}
use mathlib.Core.Path.{◌≡◌}
use Rattle.witness_entry.proofs.Memory.{load-start, load-more}
use Rattle.witness_entry.proofs.load.Goals as goal

pub offset_bounds-numbers-j : goal.offset_bounds-numbers-j
offset_bounds-numbers-j c = omega (arith, c.requires.0)

pub bounds-numbers-j : goal.bounds-numbers-j
bounds-numbers-j c = omega (arith, c.requires.0)

pub both_at-requires : goal.both_at-requires
both_at-requires c = c.requires.1 c.loop-j.j c.loop-j-test.true

pub offset_bounds-out-j : goal.offset_bounds-out-j
offset_bounds-out-j c = omega (arith, c.requires.0)

pub bounds-out-j : goal.bounds-out-j
bounds-out-j c = omega (arith, c.requires.0)

pub loop-j-preserved : goal.loop-j-preserved
loop-j-preserved c = (load-more c.loop-j.invariant.0 (omega (arith, c.requires.0, c.loop-j-test.true)) c.both_at.ensures.value c.both_at.ensures.both_below, omega arith)

pub returns : goal.returns
returns c = let last : c.loop-j.j ≡ c.args.n = omega (arith, c.loop-j.invariant.1, c.loop-j-test.false) in rw (← last) c.loop-j.invariant.0

pub loop-j-init : goal.loop-j-init
loop-j-init c = (load-start c.args.work.now c.args.numbers, omega arith)
