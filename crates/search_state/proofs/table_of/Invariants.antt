-- `search_state::table_of` meets its contract: the entries of a slot are copied one by one. Assumes nothing.
use mathlib.Core.Path.{◌≡◌}
use Prim.Native.Nat.{◌≤◌}
use lib.ListN.{length, take}
use Rattle.memory.specs.Layout.{max_entries}
use Rattle.cache.specs.Slots.{slot_at}
use Rattle.search_state.proofs.table_of.Given as goal

abbrev pub invariant-loop-j : goal.invariant-loop-j
invariant-loop-j l = (l.j ≤ l.len) × ((length l.entries ≡ max_entries) × (take l.j l.entries ≡ take l.j (slot_at l.work l.s).entries))
