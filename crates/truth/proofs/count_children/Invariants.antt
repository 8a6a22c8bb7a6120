use Rattle.truth.proofs.Counting.{ChildrenOn}
use Rattle.truth.proofs.count_children.Given as goal

abbrev pub invariant-loop-i : goal.invariant-loop-i
invariant-loop-i l = ChildrenOn l.initial.all.planes l.work l.numbers l.n l.i l.all.planes
