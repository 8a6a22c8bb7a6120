-- `index_entry::fill_record` meets its contract. Assumes nothing.
use Rattle.index_entry.proofs.Filling.{few-records, its-place, readable, size-is-at, size_few, subtree-is, filled}
use mathlib.Core.Bool.{true, false}
use Rattle.walk.proofs.Laws.{its-bytes}
use native.Mathlib.Omega.{arith}
use lib.ListN.{length-set}
use Rattle.index_entry.proofs.fill_record.Goals as goal

pub record_size-alone-requires : goal.record_size-alone-requires
record_size-alone-requires c = readable c.requires (its-bytes (its-place c.requires) c.record_end-end.ensures)

pub record_size-before-requires : goal.record_size-before-requires
record_size-before-requires c = readable c.requires (its-bytes (its-place c.requires) c.record_end-end.ensures)

pub record_subtree-x-requires : goal.record_subtree-x-requires
record_subtree-x-requires c = readable c.requires (its-bytes (its-place c.requires) c.record_end-end.ensures)

pub overflow_mul-work : goal.overflow_mul-work
overflow_mul-work c = omega (arith, size-is-at c.requires true (its-bytes (its-place c.requires) c.record_end-end.ensures) c.record_size-before.ensures, size_few c.requires true)

pub overflow_add-work : goal.overflow_add-work
overflow_add-work c = omega (
  arith,
  size-is-at c.requires false (its-bytes (its-place c.requires) c.record_end-end.ensures) c.record_size-alone.ensures,
  size_few c.requires false,
  size-is-at
      c.requires true (its-bytes (its-place c.requires) c.record_end-end.ensures) c.record_size-before.ensures,
  size_few c.requires true,
)

pub overflow_add-work-2 : goal.overflow_add-work-2
overflow_add-work-2 c = omega (arith, few-records c.requires)

pub offset_bounds-work-i-2 : goal.offset_bounds-work-i-2
offset_bounds-work-i-2 c = omega (arith, few-records c.requires)

pub bounds-work-i-2 : goal.bounds-work-i-2
bounds-work-i-2 c = omega (arith, few-records c.requires, c.requires.scanned.room)

pub overflow_add-work-5 : goal.overflow_add-work-5
overflow_add-work-5 c = omega (arith, few-records c.requires)

pub offset_bounds-work-i-3 : goal.offset_bounds-work-i-3
offset_bounds-work-i-3 c = omega (arith, few-records c.requires)

pub bounds-work-i-3 : goal.bounds-work-i-3
bounds-work-i-3 c = simp length-set (omega (arith, few-records c.requires, c.requires.scanned.room))

pub returns : goal.returns
returns c = filled c.requires (size-is-at c.requires false (its-bytes (its-place c.requires) c.record_end-end.ensures) c.record_size-alone.ensures) (size-is-at c.requires true (its-bytes
    (its-place c.requires) c.record_end-end.ensures) c.record_size-before.ensures) (subtree-is c.requires (its-bytes (its-place c.requires) c.record_end-end.ensures)
    c.record_subtree-x.ensures.ruled) c.pack.ensures
