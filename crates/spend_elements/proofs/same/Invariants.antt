-- `spend_elements::same` meets its contract: the bytes passed are equal, and the others are still to come. Assumes nothing.
use Rattle.spend_elements.specs.Elements.{bytes_in}
use Rattle.spend_elements.proofs.Scans.{SameToCome}
use Rattle.spend_elements.proofs.same.Given as goal

abbrev pub invariant-loop-j : goal.invariant-loop-j
invariant-loop-j l = SameToCome (bytes_in l.log l.a) (bytes_in l.log l.b) l.j
