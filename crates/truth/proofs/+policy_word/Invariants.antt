use Rattle.policies.specs.Array.{policy_at}
use Rattle.variables.specs.Gathering.{row_of}
use Rattle.truth.proofs.PolicyWords as P
use Rattle.truth.proofs.+policy_word.Given as goal

abbrev pub decreases-policy_word : goal.decreases-policy_word
decreases-policy_word l = l.i

abbrev pub invariant-loop-j : goal.invariant-loop-j
invariant-loop-j l = P.ChildrenOn (policy_at l.pol l.i) (row_of l.t) l.words l.all.planes l.j
