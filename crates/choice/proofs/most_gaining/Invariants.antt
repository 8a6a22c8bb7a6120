-- `choice::most_gaining` meets its contract: it goes over the children with what is still to come. Assumes nothing.
use Rattle.definition.specs.Tables.{probs}
use Rattle.choice.proofs.Arranging.{Gaining}
use Rattle.choice.proofs.most_gaining.Given as goal

abbrev pub invariant-loop-i : goal.invariant-loop-i
invariant-loop-i l = Gaining l.work (probs l.sat l.dissat) l.es l.ws l.n l.best l.least l.i
