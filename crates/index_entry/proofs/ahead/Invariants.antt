-- `index_entry::ahead` meets its contract. Assumes nothing.
use Prim.Native.Nat.{◌+◌, ◌*◌, ◌≤◌}
use mathlib.Core.Path.{◌≡◌}
use lib.ListN.{get_or}
use Rattle.index_places.specs.Places.{ahead}
use Rattle.index_memory.specs.Memory.{size_in}
use Rattle.index_entry.proofs.ahead.Given as goal

abbrev pub invariant-loop-j : goal.invariant-loop-j
invariant-loop-j l = (l.at ≡ ahead l.kind l.verified (λ w m. size_in l.work w (get_or l.children m 0)) l.j) × (l.at ≤ 3 + l.j * 4294967297) × (l.j ≤ l.n)
