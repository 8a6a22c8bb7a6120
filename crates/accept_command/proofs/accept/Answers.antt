-- `accept_command::accept` is safe: what was loaded lies in its room. Assumes nothing.
use Prim.Native.Nat.{ℕ}
use mathlib.Core.Path.{sym}
use lib.ListN.{length-replicate}
use Rattle.files.proofs.Loads.{loaded-length}
use Rattle.accept_command.proofs.accept.Goals as goal

pub slice_bounds-load_records-end : goal.slice_bounds-load_records-end
slice_bounds-load_records-end g c = sym (length-replicate {A = ℕ} 557057 0)

pub slice_bounds-load_records-end-2 : goal.slice_bounds-load_records-end-2
slice_bounds-load_records-end-2 g c = sym (length-replicate {A = ℕ} 557057 0)

pub slice_bounds-accept_of-end : goal.slice_bounds-accept_of-end
slice_bounds-accept_of-end g c = loaded-length c.load_records.new.room c.load_records.ensures c.in-Some.is

pub slice_bounds-accept_of-end-2 : goal.slice_bounds-accept_of-end-2
slice_bounds-accept_of-end-2 g c = loaded-length c.load_records-2.new.room c.load_records-2.ensures c.in-Some-load_records.is
