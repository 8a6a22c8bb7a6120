-- `spend_judge::small_digests` meets its contract: those passed are small, and the others are still to come. Assumes nothing.
use native.Mathlib.Omega.{arith}
use Rattle.spend_judge.proofs.Loops.{outcomes-begin, outcomes-in, outcomes-more, digests-begin, digests-more, digests-not, digests-done}
use Rattle.spend_judge.proofs.small_digests.Goals as goal

pub loop-i-init : goal.loop-i-init
loop-i-init c = (outcomes-begin _ _ _ c.requires, digests-begin _ _ _)

pub outcome_at-o-requires : goal.outcome_at-o-requires
outcome_at-o-requires c = outcomes-in c.loop-i.invariant.0 c.loop-i-test.true

pub returns-then-digest-gt-MAX_BYTES : goal.returns-then-digest-gt-MAX_BYTES
returns-then-digest-gt-MAX_BYTES c = digests-not c.loop-i.invariant.0 c.loop-i-test.true c.outcome_at-o.ensures c.if-digest-gt-MAX_BYTES.true c.loop-i.invariant.1

pub loop-i-preserved : goal.loop-i-preserved
loop-i-preserved c = (outcomes-more c.loop-i.invariant.0 c.loop-i-test.true c.outcome_at-o.ensures, digests-more c.loop-i.invariant.0 c.loop-i-test.true c.outcome_at-o.ensures c.if-digest-gt-MAX_BYTES.false c.loop-i.invariant.1)

pub returns : goal.returns
returns c = digests-done c.loop-i.invariant.0 c.loop-i-test.false c.loop-i.invariant.1
