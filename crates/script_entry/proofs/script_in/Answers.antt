-- `script_entry::script_in` meets its contract: every number has its entry, or one has none. Assumes nothing.
use Prim.Native.Nat.{◌≤◌}
use mathlib.Core.Path.{refl, sym, ◌∙◌}
use native.Mathlib.Omega.{arith}
use lib.ListN.{length}
use Rattle.trees.specs.Reading.{max_records}
use Rattle.script_leaves.specs.Lent.{lent}
use Rattle.walk.proofs.Laws.{all_placed, kept-length}
use Rattle.script_entry.proofs.Scanning.{all-ready}
use Rattle.script_entry.proofs.Runs.{with_entries, without-entry}
use Rattle.script_entry.proofs.script_in.Goals as goal

pub scan-count-requires : goal.scan-count-requires
scan-count-requires c = let room : max_records ≤ length c.args.work.now = omega (arith, c.requires.1) in
    (c.requires.0, room)

pub all_entries-all-requires : goal.all_entries-all-requires
all_entries-all-requires c = let room : max_records ≤ length c.args.work.now = omega (arith, c.requires.1) in
    all_placed c.scan-count.ensures c.requires.0.rows room

pub overflow_sub-root : goal.overflow_sub-root
overflow_sub-root c = let room : max_records ≤ length c.args.work.now = omega (arith, c.requires.1) in
    omega (arith, c.scan-count.ensures.counts c.requires.0.root c.requires.0.rows, c.requires.0.rows.any)

pub lay_root-requires : goal.lay_root-requires
lay_root-requires c = let room : max_records ≤ length c.args.work.now = omega (arith, c.requires.1) in
    let t = lent c.args.tables in
    all-ready c.args.context t c.requires.0.rows (c.scan-count.ensures.counts c.requires.0.root c.requires.0.rows) (all_placed c.scan-count.ensures c.requires.0.rows room)
    (sym c.all_entries-all.ensures ∙ c.if-not-all.false)

pub returns-then-not-all : goal.returns-then-not-all
returns-then-not-all c = let room : max_records ≤ length c.args.work.now = omega (arith, c.requires.1) in
    let t = lent c.args.tables in record {
      gives = (λ f rows. without-entry c.args.context t rows (c.scan-count.ensures.counts f rows) c.all_entries-all.ensures (length c.args.out.now) refl c.if-not-all.true);
      work_len_unchanged = kept-length c.scan-count.ensures c.requires.0.rows room;
    }

pub shape_of-work : goal.shape_of-work
shape_of-work c = let room : max_records ≤ length c.args.work.now = omega (arith, c.requires.1) in
    kept-length c.scan-count.ensures c.requires.0.rows room

pub returns : goal.returns
returns c = let room : max_records ≤ length c.args.work.now = omega (arith, c.requires.1) in
    let t = lent c.args.tables in record {
      gives = (λ f rows. with_entries c.args.context t rows (c.scan-count.ensures.counts f rows) c.all_entries-all.ensures (length c.args.out.now) c.if-not-all.false
          c.lay_root.ensures);
      work_len_unchanged = kept-length c.scan-count.ensures c.requires.0.rows room;
    }
