-- `move_command::to_form` is safe: what was loaded lies in its room. Assumes nothing.
use Prim.Native.Nat.{ℕ}
use mathlib.Core.Path.{sym}
use lib.ListN.{length-replicate}
use Rattle.files.proofs.Loads.{loaded-length}
use Rattle.move_command.proofs.to_form.Goals as goal

pub slice_bounds-load_records-end : goal.slice_bounds-load_records-end
slice_bounds-load_records-end g c = sym (length-replicate {A = ℕ} 557057 0)

pub slice_bounds-show_moved-end : goal.slice_bounds-show_moved-end
slice_bounds-show_moved-end g c = loaded-length c.load_records.new.room c.load_records.ensures c.in-Some.is
