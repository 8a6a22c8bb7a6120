-- `claspwillow::choose` meets its contract: the output is zeros, and has room. Assumes nothing.
use Prim.Native.Nat.{ℕ}
use mathlib.Core.Path.{sym}
use lib.ListN.{length-replicate}
use Rattle.chosen.proofs.Zeros.{zeros-zero}
use Rattle.claspwillow.proofs.choose.Goals as goal

pub slice_bounds-choose_through-end : goal.slice_bounds-choose_through-end
slice_bounds-choose_through-end c = sym (length-replicate {A = ℕ} 557056 0)

pub choose_through-requires : goal.choose_through-requires
choose_through-requires c = (length-replicate {A = ℕ} 557056 0, zeros-zero 557056)
