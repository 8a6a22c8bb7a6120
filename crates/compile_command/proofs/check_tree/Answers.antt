-- `compile_command::check_tree` is safe: what was loaded lies in its room. Assumes nothing.
use Prim.Native.Nat.{ℕ}
use mathlib.Core.Path.{sym}
use lib.ListN.{length-replicate}
use Rattle.files.proofs.Loads.{loaded-within, loaded-length}
use Rattle.compile_command.proofs.check_tree.Goals as goal

pub slice_bounds-load_records-end : goal.slice_bounds-load_records-end
slice_bounds-load_records-end g c = sym (length-replicate {A = ℕ} 557057 0)

pub slice_bounds-tree-end : goal.slice_bounds-tree-end
slice_bounds-tree-end g c = loaded-within c.load_records.new.room c.load_records.ensures c.in-Some.is

pub slice_bounds-claspwillow_check-end : goal.slice_bounds-claspwillow_check-end
slice_bounds-claspwillow_check-end g c = loaded-length c.load_records.new.room c.load_records.ensures c.in-Some.is

pub slice_bounds-claspwillow_check-end-2 : goal.slice_bounds-claspwillow_check-end-2
slice_bounds-claspwillow_check-end-2 g c = sym (length-replicate {A = ℕ} 4096 0)
