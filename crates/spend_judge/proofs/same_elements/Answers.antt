-- `spend_judge::same_elements` meets its contract: those passed are the same, and the others are still to come. Assumes nothing.
use native.Mathlib.Omega.{arith}
use mathlib.Core.Path.{refl, sym, ◌∙◌}
use borrow.Author.Tests.{not-true, not-false}
use Rattle.spend_judge.proofs.Loops.{elements-begin, elements-in, elements-more, same-begin, same_more, same_not, same-done}
use Rattle.spend_judge.proofs.same_elements.Goals as goal

pub loop-i-init : goal.loop-i-init
loop-i-init c = (elements-begin _ _ _ c.requires.0, same-begin _ _ _ _)

pub element_at-part-requires : goal.element_at-part-requires
element_at-part-requires c = elements-in c.loop-i.invariant.0

pub get-mine-requires : goal.get-mine-requires
get-mine-requires c = (omega (arith, c.loop-i-test.true, c.requires.1), c.requires.2)

pub returns-then-not-same : goal.returns-then-not-same
returns-then-not-same c = same_not c.args.log.now c.args.main.now c.args.at c.args.n c.loop-i.to c.loop-i.i c.loop-i-test.true (λ j. omega (arith, c.shared_slice_known-1.given j)) c.element_at-part.ensures
    refl c.get-mine.ensures
    (sym c.same.ensures ∙ not-true _ c.if-not-same.true-raw) c.loop-i.invariant.1

pub loop-i-preserved : goal.loop-i-preserved
loop-i-preserved c = (
  elements-more c.loop-i.invariant.0 c.loop-i-test.true c.element_at-part.ensures,
  same_more c.args.log.now c.args.main.now c.args.at c.args.n c.loop-i.to c.loop-i.i c.loop-i-test.true (λ j. omega (arith, c.shared_slice_known-1.given j)) c.element_at-part.ensures
      refl c.get-mine.ensures
      (sym c.same.ensures ∙ not-false _ c.if-not-same.false-raw) c.loop-i.invariant.1,
)

pub returns : goal.returns
returns c = same-done c.args.log.now c.args.main.now c.args.at c.args.n c.loop-i.to c.loop-i.i c.loop-i-test.false c.loop-i.invariant.1
