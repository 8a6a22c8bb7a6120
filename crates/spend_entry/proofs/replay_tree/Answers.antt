-- `spend_entry::replay_tree` meets its contract: an entry is missing, the reports do not fit, or each entry is reported. Assumes nothing.
use native.Mathlib.Omega.{arith}
use mathlib.Core.Path.{sym, ◌∙◌}
use Prim.Native.Nat.{◌≤◌}
use lib.ListN.{length}
use Rattle.trees.specs.Reading.{max_records}
use Rattle.walk.proofs.Laws.{all_placed, kept-length}
use Rattle.spend_stack.specs.Memory.{starts_in}
use Rattle.spend_stack.proofs.Memory.{starts-long, starts-same}
use Rattle.spend_entry.specs.Results.{entries_from}
use Rattle.spend_entry.proofs.Promised.{runs, placed-back, no-entry, no_room, room, fits-room}
use Rattle.spend_entry.proofs.replay_tree.Goals as goal

pub scan-n-requires : goal.scan-n-requires
scan-n-requires c = (c.requires.2, omega (arith, starts-long c.args.work.now c.requires.3))

pub overflow_sub-n : goal.overflow_sub-n
overflow_sub-n c = omega (arith, c.scan-n.ensures.counts c.requires.2.root c.requires.2.rows, c.requires.2.rows.any)

pub has_entries-requires : goal.has_entries-requires
has_entries-requires c = let enough : max_records ≤ length (starts_in c.args.work.now) = omega (arith, starts-long c.args.work.now c.requires.3) in
    (c.requires.0.lies, placed-back c.args.work.now c.requires.3 c.scan-n.new.work (kept-length c.scan-n.ensures c.requires.2.rows enough) (all_placed c.scan-n.ensures c.requires.2.rows enough))

pub report_all-requires : goal.report_all-requires
report_all-requires c = let enough : max_records ≤ length (starts_in c.args.work.now) = omega (arith, starts-long c.args.work.now c.requires.3) in
    let same = kept-length c.scan-n.ensures c.requires.2.rows enough in (
      runs c.args.context c.args.log.now c.args.head c.requires.2.rows (c.scan-n.ensures.counts c.requires.2.root c.requires.2.rows) c.requires.0.lies c.requires.1
          (placed-back c.args.work.now c.requires.3 c.scan-n.new.work same (all_placed c.scan-n.ensures c.requires.2.rows enough)) (sym c.has_entries.ensures ∙ c.if-has_entries.true),
      c.requires.0.follow,
      starts-same c.args.work.now c.requires.3 c.scan-n.new.work same ∙ c.requires.3,
      fits-room (entries_from c.args.log.now c.args.head.entries) c.args.out.now c.requires.0.counts c.if-count-out.true,
    )

pub shape_of-work-then-count-out : goal.shape_of-work-then-count-out
shape_of-work-then-count-out c = let enough : max_records ≤ length (starts_in c.args.work.now) = omega (arith, starts-long c.args.work.now c.requires.3) in
    c.report_all.ensures.keeps.same ∙ starts-same c.args.work.now c.requires.3 c.scan-n.new.work (kept-length c.scan-n.ensures c.requires.2.rows enough)

pub returns-then-count-out : goal.returns-then-count-out
returns-then-count-out c = let enough : max_records ≤ length (starts_in c.args.work.now) = omega (arith, starts-long c.args.work.now c.requires.3) in record {
  gives = (λ f rows. room c.args.context c.args.log.now c.args.head rows (c.scan-n.ensures.counts f rows) c.has_entries.ensures
      (entries_from c.args.log.now c.args.head.entries) c.args.out.now c.if-has_entries.true c.requires.0.counts c.if-count-out.true c.report_all.ensures.out_after);
  work_len_unchanged = c.report_all.ensures.keeps.same ∙ starts-same c.args.work.now c.requires.3 c.scan-n.new.work (kept-length c.scan-n.ensures c.requires.2.rows enough);
}

pub returns-then-has_entries : goal.returns-then-has_entries
returns-then-has_entries c = let enough : max_records ≤ length (starts_in c.args.work.now) = omega (arith, starts-long c.args.work.now c.requires.3) in record {
  gives = (λ f rows. no_room c.args.context c.args.log.now c.args.head rows (c.scan-n.ensures.counts f rows) c.has_entries.ensures
      (entries_from c.args.log.now c.args.head.entries) c.args.out.now c.if-has_entries.true c.requires.0.counts c.if-count-out.false);
  work_len_unchanged = starts-same c.args.work.now c.requires.3 c.scan-n.new.work (kept-length c.scan-n.ensures c.requires.2.rows enough);
}

pub returns : goal.returns
returns c = let enough : max_records ≤ length (starts_in c.args.work.now) = omega (arith, starts-long c.args.work.now c.requires.3) in record {
  gives = (λ f rows. no-entry c.args.context c.args.log.now c.args.head rows (c.scan-n.ensures.counts f rows) c.has_entries.ensures
      (entries_from c.args.log.now c.args.head.entries) c.args.out.now c.if-has_entries.false);
  work_len_unchanged = starts-same c.args.work.now c.requires.3 c.scan-n.new.work (kept-length c.scan-n.ensures c.requires.2.rows enough);
}
