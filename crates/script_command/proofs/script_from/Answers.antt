-- `script_command::script_from` is safe: what was loaded lies in its room. Assumes nothing.
use Prim.Native.Nat.{ℕ}
use mathlib.Core.Path.{sym}
use lib.ListN.{length-replicate}
use Rattle.files.proofs.Loads.{loaded-within, loaded-length}
use Rattle.script_command.proofs.script_from.Goals as goal

pub slice_bounds-load_records-end : goal.slice_bounds-load_records-end
slice_bounds-load_records-end g c = sym (length-replicate {A = ℕ} 557057 0)

pub slice_bounds-load_keys-end : goal.slice_bounds-load_keys-end
slice_bounds-load_keys-end g c = sym (length-replicate {A = ℕ} 270337 0)

pub slice_bounds-script_with_keys-end : goal.slice_bounds-script_with_keys-end
slice_bounds-script_with_keys-end g c = loaded-length c.load_records.new.room c.load_records.ensures c.in-Some.is

pub slice_bounds-script_with_keys-end-2 : goal.slice_bounds-script_with_keys-end-2
slice_bounds-script_with_keys-end-2 g c = loaded-length c.load_keys.new.room c.load_keys.ensures c.in-Some-load_keys.is

pub slice_bounds-tree-end : goal.slice_bounds-tree-end
slice_bounds-tree-end g c = loaded-within c.load_records.new.room c.load_records.ensures c.in-Some.is

pub slice_bounds-keys-end : goal.slice_bounds-keys-end
slice_bounds-keys-end g c = loaded-within c.load_keys.new.room c.load_keys.ensures c.in-Some-load_keys.is

pub load_keys-requires : goal.load_keys-requires
load_keys-requires g c = c.requires

pub script_with_keys-requires : goal.script_with_keys-requires
script_with_keys-requires g c = c.requires
