use Rattle.witness_rules.proofs.Counting.{CountingOn}
use Rattle.witness_rules.proofs.Counting.{CountingOn}
use Rattle.witness_rules.proofs.count_child.Given as goal

abbrev pub invariant-loop-j : goal.invariant-loop-j
invariant-loop-j l = CountingOn l.x l.row l.out l.j
