-- `spend_judge::small_elements` meets its contract: those passed are small, and the others are still to come. Assumes nothing.
use native.Mathlib.Omega.{arith}
use Rattle.spend_judge.proofs.Loops.{elements-begin, elements-in, elements-more, small-begin, small-more, small-not, small-done}
use Rattle.spend_judge.proofs.small_elements.Goals as goal

pub loop-i-init : goal.loop-i-init
loop-i-init c = (elements-begin _ _ _ c.requires, small-begin _ _ _)

pub element_at-part-requires : goal.element_at-part-requires
element_at-part-requires c = elements-in c.loop-i.invariant.0

pub returns-then-part-gt-MAX_BYTES : goal.returns-then-part-gt-MAX_BYTES
returns-then-part-gt-MAX_BYTES c = small-not c.loop-i.invariant.0 c.loop-i-test.true c.element_at-part.ensures c.if-part-gt-MAX_BYTES.true c.loop-i.invariant.1

pub loop-i-preserved : goal.loop-i-preserved
loop-i-preserved c = (elements-more c.loop-i.invariant.0 c.loop-i-test.true c.element_at-part.ensures, small-more c.loop-i.invariant.0 c.loop-i-test.true c.element_at-part.ensures c.if-part-gt-MAX_BYTES.false c.loop-i.invariant.1)

pub returns : goal.returns
returns c = small-done c.loop-i.invariant.0 c.loop-i-test.false c.loop-i.invariant.1
