-- `cache::put_entries` meets its contract: after k turns the first 4 k entries are written. Assumes nothing.
use Prim.Native.Nat.{◌*◌}
use Rattle.cache.proofs.Rows.{Written}
use Rattle.cache.proofs.put_entries.Given as goal

abbrev pub invariant-loop-k : goal.invariant-loop-k
invariant-loop-k l = Written l.row l.entries (4 * l.k)
