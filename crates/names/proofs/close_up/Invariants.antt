-- The loop of `names::close_up` looks at a place at a time. Assumes nothing.
use Rattle.names.proofs.Spaces.{Closing}
use Rattle.names.proofs.close_up.Given as goal

abbrev pub invariant-loop-i : goal.invariant-loop-i
invariant-loop-i l = Closing l.initial.text l.text l.n l.i
