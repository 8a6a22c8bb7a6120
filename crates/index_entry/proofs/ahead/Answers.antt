-- `index_entry::ahead` meets its contract. Assumes nothing.
use mathlib.Core.Path.{◌≡◌, refl}
use native.Mathlib.Omega.{arith}
use Rattle.index_entry.proofs.Records.{ahead-begins, ahead_more}
use Rattle.index_entry.proofs.ahead.Goals as goal

pub loop-j-init : goal.loop-j-init
loop-j-init c = (ahead-begins c.args.kind c.args.verified _ c.front_size-at.ensures.0, omega (arith, c.front_size-at.ensures.1), omega arith)

pub offset_bounds-children-place : goal.offset_bounds-children-place
offset_bounds-children-place c = omega (arith, c.place.ensures, c.requires.small c.loop-j.j c.loop-j-test.true)

pub bounds-children-place : goal.bounds-children-place
bounds-children-place c = omega (arith, c.place.ensures, c.requires.small c.loop-j.j c.loop-j-test.true)

pub size_at-size-requires : goal.size_at-size-requires
size_at-size-requires c = (c.requires.room, rw c.place.ensures (c.requires.inside c.loop-j.j c.loop-j-test.true))

pub overflow_add-at : goal.overflow_add-at
overflow_add-at c = omega (arith, c.size_at-size.ensures.1, c.after_size.ensures.1)

pub overflow_add-at-in-loop-j : goal.overflow_add-at-in-loop-j
overflow_add-at-in-loop-j c = omega (arith, c.size_at-size.ensures.1, c.after_size.ensures.1, c.loop-j.invariant.1, c.loop-j.invariant.2, c.requires.few, c.loop-j-test.true)

pub returns : goal.returns
returns c = let last : c.loop-j.j ≡ c.args.n = omega (arith, c.loop-j.invariant.2, c.loop-j-test.false) in
    rw (← last) (c.loop-j.invariant.0, c.loop-j.invariant.1)

pub loop-j-preserved : goal.loop-j-preserved
loop-j-preserved c = (
  ahead_more c.args.work.now c.args.children c.args.kind c.loop-j.j c.args.verified c.loop-j.invariant.0 c.place.ensures refl c.child_verified.ensures
      c.size_at-size.ensures.0 c.after_size.ensures.0,
  omega (arith, c.size_at-size.ensures.1, c.after_size.ensures.1, c.loop-j.invariant.1),
  omega (
    arith,
    c.loop-j-test.true,
  ),
)
