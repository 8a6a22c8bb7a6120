-- `choice::choose` meets its contract: it goes from the last entry to the first, as the definition does, with the best of those passed.
-- Assumes nothing.
use Rattle.definition.specs.Tables.{probs}
use Rattle.choice.proofs.Choosing.{Choosing}
use Rattle.choice.proofs.choose.Given as goal

abbrev pub invariant-loop-i : goal.invariant-loop-i
invariant-loop-i l = Choosing l.work l.s (probs l.sat l.dissat) l.want l.best l.i
