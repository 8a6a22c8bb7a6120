use Rattle.variables.specs.Gathering.{row_of}
use native.Mathlib.Omega.{arith}
use Rattle.truth.proofs.PolicyWords as P
use Rattle.truth.proofs.+policy_word.Goals as goal

pub overflow_sub-x : goal.overflow_sub-x
overflow_sub-x t c =
    omega (arith, (P.leaf-kind c.head_of-head.result.kind c.is_leaf.ensures c.if-is_leaf.true).0)

pub returns-then-is_leaf : goal.returns-then-is_leaf
returns-then-is_leaf t c =
    let k = P.leaf-kind c.head_of-head.result.kind c.is_leaf.ensures c.if-is_leaf.true in P.leaf-word c.args.pol.now c.args.i c.requires.0 c.requires.1.0 c.head_of-head.ensures (row_of c.args.t) c.args.words k.0 k.1 c.word_for.ensures

pub loop-j-init : goal.loop-j-init
loop-j-init t c =
    P.children-begin c.args.pol.now c.args.i c.requires.0 c.requires.1.0 c.head_of-head.ensures (row_of c.args.t) c.args.words c.no_places-all.ensures

pub policy_word-x-requires : goal.policy_word-x-requires
policy_word-x-requires t c =
    let f = P.falls c.args.pol.now c.args.i c.requires.0 c.requires.1.0 c.head_of-head.ensures (row_of c.args.t) c.args.words c.loop-j.j c.child-c.ensures c.loop-j-test.true in (omega (arith, f.0, c.decreases), (c.requires.0, (f.1, c.requires.1.1)))

pub loop-j-preserved : goal.loop-j-preserved
loop-j-preserved t c =
    P.children-more c.args.pol.now c.args.i c.requires.0 c.requires.1.0 c.head_of-head.ensures (row_of c.args.t) c.args.words c.loop-j.invariant c.loop-j-test.true c.child-c.ensures c.policy_word-x.ensures c.one_more-all.ensures

pub offset_bounds-all-gate : goal.offset_bounds-all-gate
offset_bounds-all-gate t c =
    omega (arith, P.gate-inside c.args.pol.now c.args.i c.requires.0 c.requires.1.0 c.head_of-head.ensures (row_of c.args.t) c.args.words c.policy_gate-gate.ensures)

pub bounds-all-gate : goal.bounds-all-gate
bounds-all-gate t c =
    P.gate-inside c.args.pol.now c.args.i c.requires.0 c.requires.1.0 c.head_of-head.ensures (row_of c.args.t) c.args.words c.policy_gate-gate.ensures

pub returns : goal.returns
returns t c =
    P.children-word c.args.pol.now c.args.i c.requires.0 c.requires.1.0 c.head_of-head.ensures (row_of c.args.t) c.args.words c.loop-j.invariant c.loop-j-test.false (P.other-kind c.head_of-head.result.kind c.is_leaf.ensures c.if-is_leaf.false) c.policy_gate-gate.ensures
