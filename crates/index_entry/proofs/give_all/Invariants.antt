-- `index_entry::give_all` meets its contract. Assumes nothing.
use Rattle.index_entry.specs.Building.{Giving}
use Prim.Native.Nat.{◌≤◌}
use Rattle.index_entry.proofs.give_all.Given as goal

abbrev pub invariant-loop-i : goal.invariant-loop-i
invariant-loop-i l = Giving l.tree l.initial.work l.work l.count l.i × (l.i ≤ l.count)
