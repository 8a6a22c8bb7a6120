-- `index_entry::fill` meets its contract. Assumes nothing.
use Prim.Native.Nat.{◌≤◌}
use Rattle.index_entry.specs.Building.{Filling}
use Rattle.index_entry.proofs.fill.Given as goal

abbrev pub invariant-loop-i : goal.invariant-loop-i
invariant-loop-i l = Filling l.context l.tree l.initial.work l.work l.i × (l.i ≤ l.count)
