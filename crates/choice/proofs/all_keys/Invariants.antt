-- `choice::all_keys` meets its contract: it goes over the children with what is still to come. Assumes nothing.
use Rattle.policies.specs.Array.{policy_at}
use Rattle.choice.proofs.Keys.{Telling}
use Rattle.choice.proofs.all_keys.Given as goal

abbrev pub invariant-loop-i : goal.invariant-loop-i
invariant-loop-i l = Telling (policy_at l.pol l.r) l.i
