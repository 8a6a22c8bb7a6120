-- `script_command::script_with_keys` is safe: what was loaded lies in its room. Assumes nothing.
use Prim.Native.Nat.{ℕ}
use mathlib.Core.Path.{sym}
use lib.ListN.{length-replicate}
use Rattle.files.proofs.Loads.{loaded-within, loaded-length}
use Rattle.script_command.proofs.script_with_keys.Goals as goal

pub slice_bounds-load_hashes-end : goal.slice_bounds-load_hashes-end
slice_bounds-load_hashes-end g c = sym (length-replicate {A = ℕ} 131073 0)

pub slice_bounds-load_hashes-end-2 : goal.slice_bounds-load_hashes-end-2
slice_bounds-load_hashes-end-2 g c = sym (length-replicate {A = ℕ} 131073 0)

pub slice_bounds-load_hashes-end-3 : goal.slice_bounds-load_hashes-end-3
slice_bounds-load_hashes-end-3 g c = sym (length-replicate {A = ℕ} 131073 0)

pub slice_bounds-script_of-end : goal.slice_bounds-script_of-end
slice_bounds-script_of-end g c = loaded-length c.load_hashes.new.room c.load_hashes.ensures c.in-Some.is

pub slice_bounds-script_of-end-2 : goal.slice_bounds-script_of-end-2
slice_bounds-script_of-end-2 g c = loaded-length c.load_hashes-2.new.room c.load_hashes-2.ensures c.in-Some-load_hashes.is

pub slice_bounds-script_of-end-3 : goal.slice_bounds-script_of-end-3
slice_bounds-script_of-end-3 g c = loaded-length c.load_hashes-3.new.room c.load_hashes-3.ensures c.in-Some-load_hashes-2.is

pub slice_bounds-key_hashes-end : goal.slice_bounds-key_hashes-end
slice_bounds-key_hashes-end g c = loaded-within c.load_hashes.new.room c.load_hashes.ensures c.in-Some.is

pub slice_bounds-hashes32-end : goal.slice_bounds-hashes32-end
slice_bounds-hashes32-end g c = loaded-within c.load_hashes-2.new.room c.load_hashes-2.ensures c.in-Some-load_hashes.is

pub slice_bounds-hashes20-end : goal.slice_bounds-hashes20-end
slice_bounds-hashes20-end g c = loaded-within c.load_hashes-3.new.room c.load_hashes-3.ensures c.in-Some-load_hashes-2.is

pub script_of-requires : goal.script_of-requires
script_of-requires g c = c.requires
