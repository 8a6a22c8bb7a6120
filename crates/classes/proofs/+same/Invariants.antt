-- What `classes::same` falls by, and what its loop keeps.
use Rattle.policies.specs.Policy.{weight}
use Rattle.policies.specs.Array.{policy_at}
use Rattle.classes.proofs.Equal.{SameInv}
use Prim.Native.Nat.{ℕ, ◌-◌}
use Rattle.classes.proofs.+same.Given as goal

-- how large the first policy is
abbrev pub decreases-same : goal.decreases-same
decreases-same l = weight (policy_at l.pol.now l.r)

abbrev pub invariant-loop-j : goal.invariant-loop-j
invariant-loop-j l = SameInv (policy_at l.pol l.r) (policy_at l.pol l.q) l.j
