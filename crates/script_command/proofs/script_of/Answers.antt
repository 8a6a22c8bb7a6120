-- `script_command::script_of` is safe: what was written lies in the room of the script. Assumes nothing.
use Prim.Native.Nat.{ℕ}
use mathlib.Core.Path.{sym}
use lib.ListN.{length-replicate}
use Rattle.files.proofs.Loads.{front_length}
use Rattle.script_command.proofs.Scripts.{script-within}
use Rattle.script_command.proofs.script_of.Goals as goal

pub slice_bounds-claspwillow_script-end : goal.slice_bounds-claspwillow_script-end
slice_bounds-claspwillow_script-end g c = sym (length-replicate {A = ℕ} 2240512 0)

pub slice_bounds-claspwillow_script-end-2 : goal.slice_bounds-claspwillow_script-end-2
slice_bounds-claspwillow_script-end-2 g c = sym (length-replicate {A = ℕ} 4096 0)

pub slice_bounds-show_and_save-end : goal.slice_bounds-show_and_save-end
slice_bounds-show_and_save-end g c = front_length c.claspwillow_script-number.new.out c.claspwillow_script-number.new.bytes (script-within _ _ _ _ _ c.claspwillow_script-number.ensures)

pub slice_bounds-script-end : goal.slice_bounds-script-end
slice_bounds-script-end g c = script-within _ _ _ _ _ c.claspwillow_script-number.ensures

pub show_and_save-requires : goal.show_and_save-requires
show_and_save-requires g c = c.requires
