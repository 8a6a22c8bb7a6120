-- `index_command::find_in_tree` is safe: what was loaded lies in its room. Assumes nothing.
use Prim.Native.Nat.{ℕ}
use mathlib.Core.Path.{sym}
use lib.ListN.{length-replicate}
use Rattle.files.proofs.Loads.{loaded-length}
use Rattle.index_command.proofs.find_in_tree.Goals as goal

pub slice_bounds-load_records-end : goal.slice_bounds-load_records-end
slice_bounds-load_records-end g c = sym (length-replicate {A = ℕ} 557057 0)

pub slice_bounds-find_by_index-end : goal.slice_bounds-find_by_index-end
slice_bounds-find_by_index-end g c = loaded-length c.load_records.new.room c.load_records.ensures c.in-Some.is
