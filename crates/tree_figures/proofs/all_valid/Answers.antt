use mathlib.Core.Path.{refl, sym, ◌∙◌}
use Rattle.variables.proofs.Walking.{ends-later}
use Rattle.tree_figures.proofs.Filling.{figures-begin, figures-left, figures-stand, figures-kept, figures-stop, figures-more, figures-done}
use native.Mathlib.Omega.{arith}
use Rattle.tree_figures.proofs.all_valid.Goals as goal

pub loop-at-init : goal.loop-at-init
loop-at-init c = (figures-begin c.args.context c.args.tree.now c.args.work.now c.requires.1, refl)

pub valid_here-requires : goal.valid_here-requires
valid_here-requires c = figures-stand c.loop-at.invariant.0 c.requires.0.rows c.loop-at-test.true c.record_end-end.ensures

pub overflow_add-i : goal.overflow_add-i
overflow_add-i c = omega (arith, figures-left c.loop-at.invariant.0 c.requires.0.rows c.loop-at-test.true)

pub loop-at-smaller : goal.loop-at-smaller
loop-at-smaller c = omega (arith, ends-later c.loop-at.invariant.0.on c.requires.0.rows c.loop-at-test.true c.record_end-end.ensures, c.loop-at-test.true)

pub returns : goal.returns
returns c = record {
  value = figures-done c.loop-at.invariant.0 c.loop-at-test.false;
  work_len_unchanged = c.loop-at.invariant.1;
}

pub returns-then-not-valid_here : goal.returns-then-not-valid_here
returns-then-not-valid_here c = record {
  value = figures-stop c.loop-at.invariant.0 c.requires.0.rows c.loop-at-test.true c.record_end-end.ensures c.valid_here.ensures.value c.if-not-valid_here.true;
  work_len_unchanged = figures-kept c.loop-at.invariant.0 c.requires.0.rows c.loop-at-test.true _ c.valid_here.ensures.work_after ∙ c.loop-at.invariant.1;
}

pub loop-at-preserved : goal.loop-at-preserved
loop-at-preserved c = let next = figures-more c.loop-at.invariant.0 c.requires.0.rows c.loop-at-test.true c.record_end-end.ensures c.valid_here.ensures.value c.if-not-valid_here.false c.valid_here.ensures.candidate c.valid_here.ensures.work_after in (next, next.room ∙ sym c.requires.1)
