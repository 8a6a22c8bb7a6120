use Rattle.witness_rules.proofs.Counting.{CountedFrom}
use Rattle.witness_rules.proofs.threshold.Given as goal

abbrev pub invariant-loop-i : goal.invariant-loop-i
invariant-loop-i l = CountedFrom l.n l.children l.row l.i
