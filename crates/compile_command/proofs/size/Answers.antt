-- `compile_command::size` is safe: what was loaded lies in its room. Assumes nothing.
use Prim.Native.Nat.{ℕ}
use mathlib.Core.Path.{sym}
use lib.ListN.{length-replicate}
use Rattle.files.proofs.Loads.{loaded-within, loaded-length}
use Rattle.compile_command.proofs.size.Goals as goal

pub slice_bounds-load_records-end : goal.slice_bounds-load_records-end
slice_bounds-load_records-end g c = sym (length-replicate {A = ℕ} 557057 0)

pub slice_bounds-policy-end : goal.slice_bounds-policy-end
slice_bounds-policy-end g c = loaded-within c.load_records.new.room c.load_records.ensures c.in-Some.is

pub slice_bounds-claspwillow_choose-end : goal.slice_bounds-claspwillow_choose-end
slice_bounds-claspwillow_choose-end g c = loaded-length c.load_records.new.room c.load_records.ensures c.in-Some.is

pub slice_bounds-claspwillow_choose-end-2 : goal.slice_bounds-claspwillow_choose-end-2
slice_bounds-claspwillow_choose-end-2 g c = sym (length-replicate {A = ℕ} 612360 0)
