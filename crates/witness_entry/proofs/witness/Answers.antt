use Rattle.std.proofs.lemmas.Result.{err_from_is_err_and}
use mathlib.Core.Path.{refl, sym, ◌∙◌}
use lib.ListN.{take}
use Rattle.claspwillow.proofs.CheckLaws.{same-room}
use Rattle.witness_entry.proofs.Promised.{first-long, joined-long, of-no-context, of-other-length, of-refused, tree-written, of-passed}
use Rattle.witness_entry.proofs.witness.Goals as goal

pub returns-then-context-ge2 : goal.returns-then-context-ge2
returns-then-context-ge2 c = record {
  answered = of-no-context c.args.context c.args.tree.now c.args.work.now c.if-context-ge2.true;
  work_len_unchanged = refl;
}

pub returns-then-work-ne-WORK_WORDS : goal.returns-then-work-ne-WORK_WORDS
returns-then-work-ne-WORK_WORDS c = record {
  answered = of-other-length c.args.context c.args.tree.now c.args.work.now c.if-context-ge2.false c.if-work-ne-WORK_WORDS.true;
  work_len_unchanged = refl;
}

pub root_extremes-requires : goal.root_extremes-requires
root_extremes-requires c =
    let room = c.if-work-ne-WORK_WORDS.false in
    let long = joined-long c.args.work.now c.check.new.work room (same-room (take 4096 c.args.work.now) c.check.ensures.work_after ∙ first-long c.args.work.now room) in
    (tree-written c.args.context c.args.tree.now c.args.work.now c.if-context-ge2.false room c.in_ok-check.ensures.result_value, long)

pub returns : goal.returns
returns c =
    let room = c.if-work-ne-WORK_WORDS.false in
    let long = joined-long c.args.work.now c.check.new.work room (same-room (take 4096 c.args.work.now) c.check.ensures.work_after ∙ first-long c.args.work.now room) in
    record {
      answered = of-passed c.args.context c.args.tree.now c.args.work.now c.if-context-ge2.false room c.in_ok-check.ensures.result_value c.context_of.ensures
          c.root_extremes.ensures.value;
      work_len_unchanged = c.root_extremes.ensures.work_len_unchanged ∙ long ∙ sym room;
    }

pub returns-in_err-check : goal.returns-in_err-check
returns-in_err-check c =
    let room = c.if-work-ne-WORK_WORDS.false in
    let p = err_from_is_err_and c.from_residual.result c.from_residual.ensures.1 in
    rw (p.1, p.2) (record {
      answered = of-refused c.args.context c.args.tree.now c.args.work.now c.if-context-ge2.false room c.in_err-check.ensures.result_value;
      work_len_unchanged = joined-long c.args.work.now c.check.new.work room (same-room (take 4096 c.args.work.now) c.check.ensures.work_after ∙ first-long c.args.work.now room) ∙ sym room;
    })
