use mathlib.Core.Path.{refl, ap, ◌∙◌}
use lib.ListN.{length}
use Rattle.witness_entry.proofs.Filling.{fill_begins, some_left, ends-later, stands, ways-small, fill_more, fill-ends}
use Rattle.witness_entry.proofs.Memory.{put-length}
use native.Mathlib.Omega.{arith}
use Rattle.witness_entry.proofs.fill.Goals as goal

pub loop-at-init : goal.loop-at-init
loop-at-init c = (fill_begins c.args.context c.args.tree.now c.args.work.now, refl)

pub slice_bounds-ways_in-count : goal.slice_bounds-ways_in-count
slice_bounds-ways_in-count c = omega (arith, ends-later c.loop-at.invariant.0 c.requires.0.rows c.loop-at-test.true c.record_end-end.ensures)

pub ways_in-ways-requires : goal.ways_in-ways-requires
ways_in-ways-requires c = stands c.loop-at.invariant.0 c.requires.0.rows c.loop-at-test.true c.record_end-end.ensures (c.loop-at.invariant.1 ∙ c.requires.1)

pub put_both-requires : goal.put_both-requires
put_both-requires c = (omega (arith, some_left c.loop-at.invariant.0 c.requires.0.rows c.loop-at-test.true, c.requires.0.rows.few, c.loop-at.invariant.1, c.requires.1), ways-small c.loop-at.invariant.0 c.requires.0.rows c.loop-at-test.true c.record_end-end.ensures c.ways_in-ways.ensures)

pub overflow_add-count : goal.overflow_add-count
overflow_add-count c = omega (arith, some_left c.loop-at.invariant.0 c.requires.0.rows c.loop-at-test.true, c.requires.0.rows.few)

pub loop-at-smaller : goal.loop-at-smaller
loop-at-smaller c = omega (arith, ends-later c.loop-at.invariant.0 c.requires.0.rows c.loop-at-test.true c.record_end-end.ensures, c.loop-at-test.true)

pub loop-at-preserved : goal.loop-at-preserved
loop-at-preserved c = (fill_more c.loop-at.invariant.0 c.requires.0.rows c.loop-at-test.true c.record_end-end.ensures c.ways_in-ways.ensures (c.loop-at.invariant.1 ∙ c.requires.1) c.put_both.ensures, ap length c.put_both.ensures ∙ put-length c.loop-at.work c.loop-at.count c.ways_in-ways.result ∙ c.loop-at.invariant.1)

pub shape_of-work : goal.shape_of-work
shape_of-work c = c.loop-at.invariant.1

pub returns : goal.returns
returns c = record {
  filled = fill-ends c.loop-at.invariant.0 c.requires.0.rows c.loop-at-test.false;
  work_len_unchanged = c.loop-at.invariant.1;
}
