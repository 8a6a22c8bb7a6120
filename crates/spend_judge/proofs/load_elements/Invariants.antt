-- `spend_judge::load_elements` meets its contract: those passed are loaded, and the others are still to come. Assumes nothing.
use Prim.Native.Nat.{◌-◌}
use Rattle.spend_judge.proofs.Loops.{Elements, LoadToCome}
use Rattle.spend_judge.proofs.load_elements.Given as goal

abbrev pub invariant-loop-i : goal.invariant-loop-i
invariant-loop-i l = Elements l.log l.at l.n l.to l.i × LoadToCome l.log l.initial.main l.main l.at l.n l.to l.i
