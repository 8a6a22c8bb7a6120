-- `index_command::index_of` is safe: what was written lies in the room of the index. Assumes nothing.
use Rattle.files.proofs.Loads.{front_length}
use Rattle.index_command.proofs.Within.{index-within}
use Rattle.index_command.proofs.index_of.Goals as goal

pub slice_bounds-show_and_save-end : goal.slice_bounds-show_and_save-end
slice_bounds-show_and_save-end g c = front_length c.claspwillow_index-number.new.out c.claspwillow_index-number.new.bytes (index-within c.claspwillow_index-number.ensures)
