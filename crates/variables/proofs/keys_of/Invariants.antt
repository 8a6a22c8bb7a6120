use Rattle.variables.proofs.OwnCodes.{KeysOn}
use Rattle.variables.proofs.keys_of.Given as goal

abbrev pub invariant-loop-j : goal.invariant-loop-j
invariant-loop-j l = KeysOn l.bytes l.j l.n l.list
