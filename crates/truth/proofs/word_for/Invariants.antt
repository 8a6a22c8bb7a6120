use Rattle.truth.proofs.Counting.{WordOn}
use Rattle.truth.proofs.word_for.Given as goal

abbrev pub invariant-loop-i : goal.invariant-loop-i
invariant-loop-i l = WordOn l.t.list l.t.len l.words l.x l.i
