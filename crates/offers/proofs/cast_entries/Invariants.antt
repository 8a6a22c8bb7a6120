-- `offers::cast_entries` meets its contract: before entry j, the entries still to come give what all entries give. Assumes nothing.
use mathlib.Core.Path.{◌≡◌}
use lib.ListN.{length}
use Rattle.std.specs.Prelude.{Ok}
use Rattle.definition.specs.Tables.{probs}
use Rattle.cache.specs.Slots.{slot_at}
use Rattle.offers.proofs.Entries.{Entries}
use Rattle.offers.proofs.cast_entries.Given as goal

abbrev pub invariant-loop-j : goal.invariant-loop-j
invariant-loop-j l =
    Entries l.context (probs l.sat l.dissat) l.s l.number l.initial.done.table l.initial.work l.j l.done.table l.work
    × (l.done.end ≡ Ok tt)
    × (l.n ≡ length (slot_at l.initial.work l.s).entries)
