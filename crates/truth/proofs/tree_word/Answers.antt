use mathlib.Core.Path.{sym, ◌∙◌}
use Rattle.variables.specs.Gathering.{row_of}
use Rattle.variables.proofs.Walking.{ends-later}
use Rattle.truth.proofs.RecordWords.{words-begin, words_left, words-stand, words_more, words-any, words-done}
use native.Mathlib.Omega.{arith}
use Rattle.truth.proofs.tree_word.Goals as goal

pub loop-at-init : goal.loop-at-init
loop-at-init c = words-begin c.args.tree.now c.args.work.now (row_of c.args.t) c.args.words c.requires.1.0

pub record_word-requires : goal.record_word-requires
record_word-requires c = (words-stand c.loop-at.invariant c.requires.0.rows c.loop-at-test.true c.record_end-end.ensures, c.requires.1.1)

pub offset_bounds-work-i : goal.offset_bounds-work-i
offset_bounds-work-i c = omega (arith, words_left c.loop-at.invariant c.requires.0.rows c.loop-at-test.true)

pub bounds-work-i : goal.bounds-work-i
bounds-work-i c = omega (arith, words_left c.loop-at.invariant c.requires.0.rows c.loop-at-test.true, c.loop-at.invariant.room)

pub overflow_add-i : goal.overflow_add-i
overflow_add-i c = omega (arith, words_left c.loop-at.invariant c.requires.0.rows c.loop-at-test.true)

pub loop-at-smaller : goal.loop-at-smaller
loop-at-smaller c = omega (arith, ends-later c.loop-at.invariant.on c.requires.0.rows c.loop-at-test.true c.record_end-end.ensures, c.loop-at-test.true)

pub loop-at-preserved : goal.loop-at-preserved
loop-at-preserved c = words_more c.loop-at.invariant c.requires.0.rows c.loop-at-test.true c.record_end-end.ensures c.record_word.ensures

pub overflow_sub-result : goal.overflow_sub-result
overflow_sub-result c = (words-any c.loop-at.invariant c.requires.0.rows c.loop-at-test.false).0

pub offset_bounds-work-i-2 : goal.offset_bounds-work-i-2
offset_bounds-work-i-2 c = omega (arith, (words-any c.loop-at.invariant c.requires.0.rows c.loop-at-test.false).1, c.loop-at.invariant.room)

pub bounds-work-i-2 : goal.bounds-work-i-2
bounds-work-i-2 c = (words-any c.loop-at.invariant c.requires.0.rows c.loop-at-test.false).1

pub shape_of-work : goal.shape_of-work
shape_of-work c = c.loop-at.invariant.room ∙ sym c.requires.1.0

pub returns : goal.returns
returns c = record {
  j_value = words-done c.loop-at.invariant c.loop-at-test.false;
  work_len_unchanged = c.loop-at.invariant.room ∙ sym c.requires.1.0;
}
