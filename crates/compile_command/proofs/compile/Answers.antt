-- `compile_command::compile` is safe: what was loaded lies in its room, and what was written in the tree. Assumes nothing.
use Prim.Native.Nat.{ℕ}
use mathlib.Core.Path.{sym, ◌∙◌}
use lib.ListN.{length-replicate}
use Rattle.files.proofs.Loads.{loaded-within, loaded-length}
use Rattle.compile_command.proofs.Rooms.{written-within}
use Rattle.compile_command.proofs.compile.Goals as goal

pub slice_bounds-load_records-end : goal.slice_bounds-load_records-end
slice_bounds-load_records-end g c = sym (length-replicate {A = ℕ} 557057 0)

pub slice_bounds-policy-end : goal.slice_bounds-policy-end
slice_bounds-policy-end g c = loaded-within c.load_records.new.room c.load_records.ensures c.in-Some.is

pub slice_bounds-claspwillow_compile-end : goal.slice_bounds-claspwillow_compile-end
slice_bounds-claspwillow_compile-end g c = loaded-length c.load_records.new.room c.load_records.ensures c.in-Some.is

pub slice_bounds-claspwillow_compile-end-2 : goal.slice_bounds-claspwillow_compile-end-2
slice_bounds-claspwillow_compile-end-2 g c = sym (length-replicate {A = ℕ} 557056 0)

pub slice_bounds-claspwillow_compile-end-3 : goal.slice_bounds-claspwillow_compile-end-3
slice_bounds-claspwillow_compile-end-3 g c = sym (length-replicate {A = ℕ} 612360 0)

pub show_and_save-requires : goal.show_and_save-requires
show_and_save-requires g c = written-within _ _ _ _ c.claspwillow_compile-number.ensures

pub slice_bounds-show_and_save-end : goal.slice_bounds-show_and_save-end
slice_bounds-show_and_save-end g c = sym (c.claspwillow_compile-number.auto.out ∙ length-replicate {A = ℕ} 557056 0)
