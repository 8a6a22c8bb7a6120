-- `index_entry::give_places` meets its contract. Assumes nothing.
use Prim.Native.Nat.{◌≤◌}
use Rattle.index_entry.proofs.Placing.{GiveOn}
use Rattle.index_entry.proofs.give_places.Given as goal

abbrev pub invariant-loop-j : goal.invariant-loop-j
invariant-loop-j l = GiveOn l.tree l.initial.work l.work l.i l.j × (l.j ≤ l.n)
