use Rattle.truth.proofs.PlaneLaws.{OneOn}
use Rattle.truth.proofs.one_more.Given as goal

abbrev pub invariant-loop-t : goal.invariant-loop-t
invariant-loop-t l = OneOn l.planes l.x l.next l.t
