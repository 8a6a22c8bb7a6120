-- `policies::depth` meets its contract: it falls from a record to its children, and goes over them with what is still to come.
-- Assumes nothing.
use Rattle.policies.specs.Policy.{weight}
use Rattle.policies.specs.Array.{policy_at}
use Rattle.policies.specs.Forms.{children_of}
use Rattle.policies.proofs.Depths.{DepthInv}
use Rattle.policies.proofs.+depth.Given as goal

abbrev pub decreases-depth : goal.decreases-depth
decreases-depth l = weight (policy_at l.pol.now l.i)

abbrev pub invariant-loop-j : goal.invariant-loop-j
invariant-loop-j l = DepthInv (children_of (policy_at l.pol l.i)) l.deepest l.j
