use mathlib.Core.Path.{refl}
use Rattle.accept_entry.proofs.Promised.{of-both, of-no-context, of-other-length}
use Rattle.accept_entry.proofs.accept.Goals as goal

pub returns-then-context-ge2 : goal.returns-then-context-ge2
returns-then-context-ge2 c = record {
  results = of-no-context c.args.context c.args.policy.now c.args.tree.now c.args.work.now c.if-context-ge2.true;
  work_len_unchanged = refl;
}

pub returns-then-work-ne-WORK_WORDS : goal.returns-then-work-ne-WORK_WORDS
returns-then-work-ne-WORK_WORDS c = record {
  results = of-other-length c.args.context c.args.policy.now c.args.tree.now c.args.work.now c.if-context-ge2.false c.if-work-ne-WORK_WORDS.true;
  work_len_unchanged = refl;
}

pub returns : goal.returns
returns c = record {
  results = of-both c.args.context c.args.policy.now c.args.tree.now c.args.work.now c.if-context-ge2.false c.if-work-ne-WORK_WORDS.false c.accept_read.ensures.results;
  work_len_unchanged = c.accept_read.ensures.work_len_unchanged;
}
