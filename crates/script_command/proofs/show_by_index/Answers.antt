-- `script_command::show_by_index` is safe: what was written lies in the room of the index. Assumes nothing.
use Prim.Native.Nat.{ℕ}
use mathlib.Core.Path.{sym}
use lib.ListN.{length-replicate}
use Rattle.files.proofs.Loads.{front_length}
use Rattle.index_command.proofs.Within.{index-within}
use Rattle.script_command.proofs.show_by_index.Goals as goal

pub slice_bounds-claspwillow_index-end : goal.slice_bounds-claspwillow_index-end
slice_bounds-claspwillow_index-end g c = sym (length-replicate {A = ℕ} 65536 0)

pub slice_bounds-claspwillow_index-end-2 : goal.slice_bounds-claspwillow_index-end-2
slice_bounds-claspwillow_index-end-2 g c = sym (length-replicate {A = ℕ} 16384 0)

pub slice_bounds-show_words-end : goal.slice_bounds-show_words-end
slice_bounds-show_words-end g c = front_length c.claspwillow_index-number.new.out c.claspwillow_index-number.new.bytes (index-within c.claspwillow_index-number.ensures)
