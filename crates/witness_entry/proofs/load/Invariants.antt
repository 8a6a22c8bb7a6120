use Prim.Native.Nat.{◌≤◌}
use Rattle.witness_entry.specs.Memory.{Loaded}
use Rattle.witness_entry.proofs.load.Given as goal

abbrev pub invariant-loop-j : goal.invariant-loop-j
invariant-loop-j l = Loaded l.work l.numbers l.j l.out × (l.j ≤ l.n)
