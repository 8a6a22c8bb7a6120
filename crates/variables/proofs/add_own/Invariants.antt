use Rattle.variables.proofs.OwnCodes.{OwnOn}
use Rattle.variables.proofs.add_own.Given as goal

abbrev pub invariant-loop-j : goal.invariant-loop-j
invariant-loop-j l = OwnOn l.initial.all l.list l.n l.j l.all
