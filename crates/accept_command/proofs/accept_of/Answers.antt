-- `accept_command::accept_of` is safe. Assumes nothing.
use Prim.Native.Nat.{ℕ}
use mathlib.Core.Path.{sym}
use lib.ListN.{length-replicate}
use Rattle.accept_command.proofs.accept_of.Goals as goal

pub slice_bounds-claspwillow_accept-end : goal.slice_bounds-claspwillow_accept-end
slice_bounds-claspwillow_accept-end g c = sym (length-replicate {A = ℕ} 65536 0)
