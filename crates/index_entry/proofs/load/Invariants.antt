-- `index_entry::load` meets its contract. Assumes nothing.
use Prim.Native.Nat.{◌≤◌}
use Rattle.index_entry.proofs.Records.{LoadOn}
use Rattle.index_entry.proofs.load.Given as goal

abbrev pub invariant-loop-j : goal.invariant-loop-j
invariant-loop-j l = LoadOn l.work l.numbers l.out l.j × (l.j ≤ l.n)
