-- `oracle_replay::run` meets its contract: what it lends is long enough. Assumes nothing.
use Prim.Native.Nat.{ℕ}
use mathlib.Core.Path.{refl, sym}
use lib.Dec.{lit≤}
use lib.ListN.{length-replicate}
use Rattle.oracle_verdicts.proofs.Tallies.{lent-zeros}
use Rattle.oracle_replay.proofs.run.Goals as goal

pub slice_bounds-replay-end : goal.slice_bounds-replay-end
slice_bounds-replay-end g c = sym (length-replicate {A = ℕ} 262144 0)

pub slice_bounds-replay-end-2 : goal.slice_bounds-replay-end-2
slice_bounds-replay-end-2 g c = sym (length-replicate {A = ℕ} 262144 0)

pub slice_bounds-replay-end-3 : goal.slice_bounds-replay-end-3
slice_bounds-replay-end-3 g c = sym (length-replicate {A = ℕ} 557056 0)

pub slice_bounds-replay-end-4 : goal.slice_bounds-replay-end-4
slice_bounds-replay-end-4 g c = sym (length-replicate {A = ℕ} 612360 0)

pub replay-requires : goal.replay-requires
replay-requires g c = lent-zeros c.args.text.now 262144 262144 612360 c.requires (lit≤ tt) (lit≤ tt) refl
