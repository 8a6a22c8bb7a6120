use Rattle.policies.specs.Forms.{children_of}
use Rattle.policies.specs.Array.{policy_at}
use native.Mathlib.Omega.{arith}
use Rattle.variables.proofs.PolicyGathering as G
use Rattle.variables.proofs.+add_policy.Goals as goal

pub returns-then-kind-lt3 : goal.returns-then-kind-lt3
returns-then-kind-lt3 t c =
    record { gathered = λ l x. G.no-variables c.args.pol.now c.args.i c.requires.0 c.requires.1.0 c.head_of-head.ensures c.args.t c.if-kind-lt3.true l x; roomy = c.requires.1.1 }

pub returns-then-kind-lt10 : goal.returns-then-kind-lt10
returns-then-kind-lt10 t c =
    record { gathered = G.one-variable c.args.pol.now c.args.i c.requires.0 c.requires.1.0 c.head_of-head.ensures c.args.t c.requires.1.1 c.if-kind-lt3.false c.if-kind-lt10.true c.add.ensures.value; roomy = c.add.ensures.roomy }

pub loop-j-init : goal.loop-j-init
loop-j-init t c =
    G.policy-begin c.args.t (children_of (policy_at c.args.pol.now c.args.i)) c.requires.1.1

pub add_policy-all-requires : goal.add_policy-all-requires
add_policy-all-requires t c =
    let f = G.falls c.args.pol.now c.args.i c.requires.0 c.requires.1.0 c.head_of-head.ensures c.loop-j.j c.child-c.ensures c.loop-j-test.true in (omega (arith, f.0, c.decreases), (c.requires.0, (f.1, c.loop-j.invariant.room)))

pub loop-j-preserved : goal.loop-j-preserved
loop-j-preserved t c =
    G.policy-more c.args.pol.now c.args.i c.requires.0 c.requires.1.0 c.head_of-head.ensures c.loop-j.invariant c.loop-j-test.true c.child-c.ensures c.add_policy-all.ensures.gathered c.add_policy-all.ensures.roomy

pub returns : goal.returns
returns t c =
    record { gathered = G.policy-done c.args.pol.now c.args.i c.requires.0 c.requires.1.0 c.head_of-head.ensures c.loop-j.invariant c.if-kind-lt10.false c.loop-j-test.false; roomy = c.loop-j.invariant.room }
