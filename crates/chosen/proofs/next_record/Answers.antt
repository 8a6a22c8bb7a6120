-- `chosen::next_record` meets its contract: the first bytes are copied, and tell of the record. Assumes nothing.
use Rattle.std.proofs.Common.{rules}
use mathlib.Core.Path.{◌≡◌, refl, sym, ◌∙◌}
use native.Mathlib.Omega.{arith}
use lib.ListN.{length}
use lib.Seq.{length-take-le}
use Rattle.records.proofs.Laws.{whole_length, broken-length}
use Rattle.chosen.specs.Answers.{stops}
use Rattle.chosen.proofs.Reading.{none-begins, smaller-is, within, record-stops, record-reads, roots-long}
use Rattle.chosen.proofs.next_record.Goals as goal

pub bytes_at-bytes-requires : goal.bytes_at-bytes-requires
bytes_at-bytes-requires c = (c.requires.work_len.0, (omega arith, omega arith))

pub slice_bounds-bytes-end : goal.slice_bounds-bytes-end
slice_bounds-bytes-end c = omega arith

pub slice_bounds-length_at-end : goal.slice_bounds-length_at-end
slice_bounds-length_at-end c = let wide : length c.bytes_at-bytes.result ≡ 136 = search rules in
    sym (length-take-le _ c.bytes_at-bytes.result (omega arith))

pub returns-in_err-len : goal.returns-in_err-len
returns-in_err-len c = rw c.from_residual.ensures (stops (none-begins c.args.work.now c.bytes_at-bytes.result c.args.at c.args.n c.min-some.result c.requires.work_len.0 c.requires.work_len.1.0 c.requires.work_len.1.1 (smaller-is _ _ c.min-some.ensures) c.bytes_at-bytes.ensures (broken-length _ 0 c.in_err-len.ensures refl) _ _) c.requires.roots_len.0)

pub slice_bounds-bytes-end-2 : goal.slice_bounds-bytes-end-2
slice_bounds-bytes-end-2 c = omega (arith, within c.args.work.now c.bytes_at-bytes.result c.args.at c.args.n c.min-some.result c.requires.work_len.0 c.requires.work_len.1.0 c.requires.work_len.1.1 (smaller-is _ _ c.min-some.ensures) c.bytes_at-bytes.ensures (whole_length _ 0 c.in_ok-len.ensures refl))

pub slice_bounds-take_record-end : goal.slice_bounds-take_record-end
slice_bounds-take_record-end c = let wide : length c.bytes_at-bytes.result ≡ 136 = search rules in
    sym (length-take-le _ c.bytes_at-bytes.result (omega (arith, within c.args.work.now c.bytes_at-bytes.result c.args.at c.args.n c.min-some.result c.requires.work_len.0 c.requires.work_len.1.0 c.requires.work_len.1.1 (smaller-is _ _ c.min-some.ensures) c.bytes_at-bytes.ensures (whole_length _ 0 c.in_ok-len.ensures refl))))

pub take_record-requires : goal.take_record-requires
take_record-requires c = (c.requires.roots_len.0, (c.requires.roots_len.1.0, c.requires.roots_len.1.1))

pub shape_of-roots-in_err-after : goal.shape_of-roots-in_err-after
shape_of-roots-in_err-after c = roots-long c.take_record.ensures ∙ sym c.requires.roots_len.0

pub returns-in_err-after : goal.returns-in_err-after
returns-in_err-after c = rw c.from_residual-in_err-after.ensures (record-stops c.args.work.now c.bytes_at-bytes.result c.args.at c.args.n c.min-some.result c.requires.work_len.0 c.requires.work_len.1.0 c.requires.work_len.1.1 (smaller-is _ _ c.min-some.ensures) c.bytes_at-bytes.ensures (whole_length _ 0 c.in_ok-len.ensures refl) _ c.in_err-after.ensures refl)

pub shape_of-roots : goal.shape_of-roots
shape_of-roots c = roots-long c.take_record.ensures ∙ sym c.requires.roots_len.0

pub returns : goal.returns
returns c = record-reads c.args.work.now c.bytes_at-bytes.result c.args.at c.args.n c.min-some.result c.requires.work_len.0 c.requires.work_len.1.0 c.requires.work_len.1.1 (smaller-is _ _ c.min-some.ensures) c.bytes_at-bytes.ensures (whole_length _ 0 c.in_ok-len.ensures refl) _ c.in_ok-after.ensures refl
