-- `differ_command::differ_of` is safe: the differences that were told lie in their room, and what is said of a refusal is so. Assumes nothing.
use Prim.Native.Nat.{ℕ, ◌*◌}
use mathlib.Core.Path.{sym}
use native.Mathlib.Omega.{arith}
use lib.ListN.{length-replicate}
use Rattle.files.proofs.Loads.{front_length}
use Rattle.differ_command.proofs.Sides.{refuses-with, told-small, half-long, told-within}
use Rattle.differ_command.proofs.differ_of.Goals as goal

pub side_of-side-requires : goal.side_of-side-requires
side_of-side-requires g c =
    (half-long c.claspwillow_differ-number.ensures (sym (length-replicate {A = ℕ} 8192 0)), refuses-with c.claspwillow_differ-number.ensures)

pub overflow_mul-told : goal.overflow_mul-told
overflow_mul-told g c = omega (arith, told-small c.claspwillow_differ-number.ensures (sym (length-replicate {A = ℕ} 32768 0)))

pub slice_bounds-told-end : goal.slice_bounds-told-end
slice_bounds-told-end g c = told-within c.claspwillow_differ-number.ensures

pub slice_bounds-show_differences-end : goal.slice_bounds-show_differences-end
slice_bounds-show_differences-end g c =
    front_length c.claspwillow_differ-number.new.out (8 * c.claspwillow_differ-number.new.differences) (told-within c.claspwillow_differ-number.ensures)
