-- `witness::run` meets its contract: what it lends is long enough. Assumes nothing.
use Prim.Native.Nat.{ℕ}
use mathlib.Core.Path.{refl, sym}
use lib.Dec.{lit≤}
use lib.ListN.{length-replicate}
use Rattle.witness_report.proofs.Lists.{lent-zeros}
use Rattle.witness.proofs.run.Goals as goal

pub slice_bounds-report-end-3 : goal.slice_bounds-report-end-3
slice_bounds-report-end-3 g c = sym (length-replicate {A = ℕ} 2162688 0)

pub report-requires : goal.report-requires
report-requires g c = lent-zeros c.args.text.now 65536 8192 2162688 c.requires refl refl (lit≤ tt)
