-- `witness::run_list` is safe: the room has its length. Assumes nothing.
use Prim.Native.Nat.{ℕ}
use mathlib.Core.Path.{sym}
use lib.ListN.{length-replicate}
use Rattle.witness.proofs.run_list.Goals as goal

pub slice_bounds-run_in-end : goal.slice_bounds-run_in-end
slice_bounds-run_in-end g c = sym (length-replicate {A = ℕ} 2097153 0)

pub run_in-requires : goal.run_in-requires
run_in-requires g c = length-replicate {A = ℕ} 2097153 0
