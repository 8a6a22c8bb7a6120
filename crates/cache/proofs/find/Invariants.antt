-- `cache::find` meets its contract: what is found among the first n tables is what is found among all. Assumes nothing.
use mathlib.Core.Path.{◌≡◌}
use Prim.Native.Nat.{◌≤◌}
use Rattle.memory.specs.Layout.{max_tables}
use Rattle.cache.specs.Lookup.{find_up_to, find_in}
use Rattle.cache.proofs.find.Given as goal

abbrev pub invariant-loop-n : goal.invariant-loop-n
invariant-loop-n l = (l.n ≤ max_tables) × (find_up_to l.work l.n l.number l.sat l.dissat ≡ find_in l.work l.number l.sat l.dissat)
