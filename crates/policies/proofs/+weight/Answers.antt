-- `policies::weight` meets its contract: it falls from a record to its children, and goes over them with what is still to come.
-- Assumes nothing.
use native.Mathlib.Omega.{arith}
use Rattle.policies.specs.Array.{policy_at}
use Rattle.policies.proofs.Depths.{counted}
use Rattle.policies.proofs.Sizes.{kind-told, size-falls, size-within, size-more, size-thresh, size-other}
use Rattle.policies.proofs.+weight.Goals as goal

pub weight-sum-requires : goal.weight-sum-requires
weight-sum-requires t c =
    size-falls c.args.pol.now c.args.i c.requires.0 c.requires.1.0 c.loop-j.j _ t c.child-c.ensures (counted (policy_at c.args.pol.now c.args.i) c.head_of-head.ensures) c.loop-j-test.true c.decreases c.requires.1.1

pub overflow_add-sum : goal.overflow_add-sum
overflow_add-sum t c =
    let within = size-within c.args.pol.now c.args.i c.requires.0 c.requires.1.0 c.loop-j.j _ (counted (policy_at c.args.pol.now c.args.i) c.head_of-head.ensures) c.loop-j.invariant c.child-c.ensures c.loop-j-test.true c.weight-sum.ensures in
    omega (arith, within, c.requires.1.1)

pub loop-j-preserved : goal.loop-j-preserved
loop-j-preserved t c =
    size-more c.args.pol.now c.args.i c.requires.0 c.requires.1.0 c.loop-j.j _ (counted (policy_at c.args.pol.now c.args.i) c.head_of-head.ensures) c.loop-j.invariant c.child-c.ensures c.loop-j-test.true c.weight-sum.ensures

pub overflow_mul-result : goal.overflow_mul-result
overflow_mul-result t c =
    let size = size-thresh c.args.pol.now c.args.i c.requires.0 c.requires.1.0 c.loop-j.j _ (counted (policy_at c.args.pol.now c.args.i) c.head_of-head.ensures) c.loop-j.invariant c.loop-j-test.false (kind-told (policy_at c.args.pol.now c.args.i) c.head_of-head.ensures) c.if-kind-eq-THRESH.true in
    omega (arith, size, c.requires.1.1)

pub overflow_add-result : goal.overflow_add-result
overflow_add-result t c =
    let size = size-thresh c.args.pol.now c.args.i c.requires.0 c.requires.1.0 c.loop-j.j _ (counted (policy_at c.args.pol.now c.args.i) c.head_of-head.ensures) c.loop-j.invariant c.loop-j-test.false (kind-told (policy_at c.args.pol.now c.args.i) c.head_of-head.ensures) c.if-kind-eq-THRESH.true in
    omega (arith, size, c.requires.1.1)

pub returns-then-kind-eq-THRESH : goal.returns-then-kind-eq-THRESH
returns-then-kind-eq-THRESH t c =
    size-thresh c.args.pol.now c.args.i c.requires.0 c.requires.1.0 c.loop-j.j _ (counted (policy_at c.args.pol.now c.args.i) c.head_of-head.ensures) c.loop-j.invariant c.loop-j-test.false (kind-told (policy_at c.args.pol.now c.args.i) c.head_of-head.ensures) c.if-kind-eq-THRESH.true

pub returns : goal.returns
returns t c =
    size-other c.args.pol.now c.args.i c.requires.0 c.requires.1.0 c.loop-j.j _ (counted (policy_at c.args.pol.now c.args.i) c.head_of-head.ensures) c.loop-j.invariant c.loop-j-test.false (kind-told (policy_at c.args.pol.now c.args.i) c.head_of-head.ensures) c.if-kind-eq-THRESH.false
