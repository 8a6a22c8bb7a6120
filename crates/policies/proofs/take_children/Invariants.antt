-- `policies::take_children` meets its contract: what is still to come of the taking gives what the taking of all gives. Assumes nothing.
use Rattle.policies.proofs.Slots.{TookInv}
use Rattle.policies.proofs.take_children.Given as goal

abbrev pub invariant-loop-j : goal.invariant-loop-j
invariant-loop-j l = TookInv l.i l.n l.initial.pol l.pol l.j
