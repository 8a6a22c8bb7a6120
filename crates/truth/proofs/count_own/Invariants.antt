use Rattle.variables.specs.Gathering.{row_of}
use Rattle.truth.proofs.Counting.{OwnOn}
use Rattle.truth.proofs.count_own.Given as goal

abbrev pub invariant-loop-i : goal.invariant-loop-i
invariant-loop-i l = OwnOn l.initial.all.planes l.list (row_of l.t) l.words l.n l.i l.all.planes
