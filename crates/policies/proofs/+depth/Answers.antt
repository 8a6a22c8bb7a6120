-- `policies::depth` meets its contract: it falls from a record to its children, and goes over them with what is still to come.
-- Assumes nothing.
use native.Mathlib.Omega.{arith}
use Rattle.policies.specs.Array.{policy_at}
use Rattle.policies.proofs.Depths.{depth_falls, depth-more, depth-done, depth-few, counted}
use Rattle.policies.proofs.+depth.Goals as goal

pub depth-requires : goal.depth-requires
depth-requires t c =
    depth_falls c.args.pol.now c.args.i c.requires.0 c.requires.1 c.loop-j.j _ t c.child-c.ensures
    (counted (policy_at c.args.pol.now c.args.i) c.head_of-n.ensures) c.loop-j-test.true c.decreases

pub loop-j-preserved : goal.loop-j-preserved
loop-j-preserved t c =
    depth-more c.args.pol.now c.args.i c.requires.0 c.requires.1 c.loop-j.j _ c.child-c.ensures
    (counted (policy_at c.args.pol.now c.args.i) c.head_of-n.ensures) c.loop-j-test.true
    c.depth.ensures c.max-deepest.ensures c.loop-j.invariant

pub overflow_add-result : goal.overflow_add-result
overflow_add-result t c =
    let e = depth-done c.args.pol.now c.args.i c.requires.0 c.requires.1 c.loop-j.j _
    (counted (policy_at c.args.pol.now c.args.i) c.head_of-n.ensures) c.loop-j-test.false c.loop-j.invariant in
    omega (arith, e, depth-few c.args.pol.now c.requires.0 c.args.i c.requires.1)

pub returns : goal.returns
returns t c =
    depth-done c.args.pol.now c.args.i c.requires.0 c.requires.1 c.loop-j.j _
    (counted (policy_at c.args.pol.now c.args.i) c.head_of-n.ensures) c.loop-j-test.false c.loop-j.invariant
