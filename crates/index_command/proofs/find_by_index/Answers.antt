-- `index_command::find_by_index` is safe: what was loaded lies in its room. Assumes nothing.
use Prim.Native.Nat.{ℕ}
use mathlib.Core.Path.{sym}
use lib.ListN.{length-replicate}
use Rattle.files.proofs.Loads.{loaded-length}
use Rattle.index_command.proofs.find_by_index.Goals as goal

pub slice_bounds-load_index-end : goal.slice_bounds-load_index-end
slice_bounds-load_index-end g c = sym (length-replicate {A = ℕ} 65537 0)

pub slice_bounds-find_in-end : goal.slice_bounds-find_in-end
slice_bounds-find_in-end g c = loaded-length c.load_index.new.room c.load_index.ensures c.in-Some.is
