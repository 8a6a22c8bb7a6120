-- `spend_judge::load_elements` meets its contract: those passed are loaded, and the others are still to come. Assumes nothing.
use native.Mathlib.Omega.{arith}
use mathlib.Core.Path.{refl}
use Rattle.spend_judge.proofs.Loops.{elements-begin, elements-in, elements-more, load-begin, load-more, load-done}
use Rattle.spend_judge.proofs.load_elements.Goals as goal

pub loop-i-init : goal.loop-i-init
loop-i-init c = (elements-begin _ _ _ c.requires.0, load-begin _ _ _ _)

pub element_at-part-requires : goal.element_at-part-requires
element_at-part-requires c = elements-in c.loop-i.invariant.0

pub put-requires : goal.put-requires
put-requires c = (omega (arith, c.loop-i-test.true, c.requires.1), omega (arith, c.loop-i.invariant.1.same, c.requires.2))

pub loop-i-preserved : goal.loop-i-preserved
loop-i-preserved c = (
  elements-more c.loop-i.invariant.0 c.loop-i-test.true c.element_at-part.ensures,
  load-more c.loop-i.invariant.0 c.loop-i-test.true (λ j. omega (arith, c.shared_slice_known-1.given j)) c.requires.1 c.requires.2 c.element_at-part.ensures refl c.put.ensures c.loop-i.invariant.1,
)

pub shape_of-main : goal.shape_of-main
shape_of-main c = c.loop-i.invariant.1.same

pub returns : goal.returns
returns c = load-done c.loop-i.invariant.0 c.loop-i-test.false c.requires.1 c.loop-i.invariant.1
