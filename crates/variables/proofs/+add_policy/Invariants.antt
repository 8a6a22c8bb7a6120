use Rattle.policies.specs.Forms.{children_of}
use Rattle.policies.specs.Array.{policy_at}
use Rattle.variables.proofs.PolicyGathering as G
use Rattle.variables.proofs.+add_policy.Given as goal

abbrev pub decreases-add_policy : goal.decreases-add_policy
decreases-add_policy l = l.i

abbrev pub invariant-loop-j : goal.invariant-loop-j
invariant-loop-j l = G.PolicyOn l.initial.all (children_of (policy_at l.pol l.i)) l.j l.all
