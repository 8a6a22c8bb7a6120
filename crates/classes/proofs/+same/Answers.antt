-- `classes::same` meets its contract: it falls from two policies to their children, and goes over them while they are equal.
-- Assumes nothing.
use borrow.Author.Tests.{not-true, not-false}
use Rattle.policies.specs.Array.{policy_at}
use Rattle.classes.proofs.Equal.{same-starts, heads-apart, same-falls, child-apart, same_more, same-all}
use Rattle.classes.proofs.+same.Goals as goal

pub returns-then-not-same_heads : goal.returns-then-not-same_heads
returns-then-not-same_heads t c =
    heads-apart c.args.pol.now c.args.r c.args.q c.requires.0 c.requires.1.0 c.requires.1.1 c.head_of-a.ensures c.head_of-b.ensures
    c.same_heads.ensures (not-true _ c.if-not-same_heads.true-raw)

pub loop-j-init : goal.loop-j-init
loop-j-init t c =
    same-starts (policy_at c.args.pol.now c.args.r) (policy_at c.args.pol.now c.args.q)

pub same-requires : goal.same-requires
same-requires t c =
    same-falls c.args.pol.now c.args.r c.args.q c.requires.0 c.requires.1.0 c.requires.1.1 c.head_of-a.ensures c.head_of-b.ensures
    c.same_heads.ensures (not-false _ c.if-not-same_heads.false-raw) c.loop-j.j c.loop-j-test.true c.child-x.ensures c.child-y.ensures t c.decreases

pub returns-then-not-same : goal.returns-then-not-same
returns-then-not-same t c =
    child-apart c.args.pol.now c.args.r c.args.q c.requires.0 c.requires.1.0 c.requires.1.1 c.head_of-a.ensures c.head_of-b.ensures
    c.same_heads.ensures (not-false _ c.if-not-same_heads.false-raw) c.loop-j.j c.loop-j-test.true c.child-x.ensures c.child-y.ensures c.same.ensures
    (not-true _ c.if-not-same.true-raw)

pub loop-j-preserved : goal.loop-j-preserved
loop-j-preserved t c =
    same_more c.args.pol.now c.args.r c.args.q c.requires.0 c.requires.1.0 c.requires.1.1 c.head_of-a.ensures c.head_of-b.ensures
    c.same_heads.ensures (not-false _ c.if-not-same_heads.false-raw) c.loop-j.j c.loop-j-test.true c.child-x.ensures c.child-y.ensures c.same.ensures
    (not-false _ c.if-not-same.false-raw) c.loop-j.invariant

pub returns : goal.returns
returns t c =
    same-all c.args.pol.now c.args.r c.args.q c.requires.0 c.requires.1.0 c.requires.1.1 c.head_of-a.ensures c.head_of-b.ensures
    c.same_heads.ensures (not-false _ c.if-not-same_heads.false-raw) c.loop-j.j c.loop-j-test.false c.loop-j.invariant
