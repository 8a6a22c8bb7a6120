-- `policies::one_root` meets its contract: what is still to come of the slots has the root that all have. Assumes nothing.
use Rattle.policies.proofs.Roots.{RootInv}
use Rattle.policies.proofs.one_root.Given as goal

abbrev pub invariant-loop-i : goal.invariant-loop-i
invariant-loop-i l = RootInv l.pol l.last l.i
