-- `differ::check_both` meets its contract: the right tree is checked where the left one passes. Assumes nothing.
use Rattle.std.proofs.lemmas.Result.{err_from_is_err_and}
use mathlib.Core.Path.{◌∙◌}
use Rattle.claspwillow.proofs.CheckLaws.{same-room}
use Rattle.differ.proofs.Promised.{tree-passes, tree-refused, first-refused, second-refused, both-pass}
use Rattle.differ.proofs.check_both.Goals as goal

pub returns-in_err-check : goal.returns-in_err-check
returns-in_err-check c =
    let p = err_from_is_err_and c.from_residual.result c.from_residual.ensures.1 in
    rw (p.1, p.2) (record {
      both_checked = first-refused c.args.context c.args.left.now c.args.right.now _
          (tree-refused c.args.context c.args.left.now c.args.work.now c.requires _ c.in_err-check.ensures.result_value);
      work_len_unchanged = same-room c.args.work.now c.check.ensures.work_after;
    })

pub returns-in_err-check-2 : goal.returns-in_err-check-2
returns-in_err-check-2 c =
    let room = same-room c.args.work.now c.check.ensures.work_after in
    let p = err_from_is_err_and c.from_residual-in_err-check-2.result c.from_residual-in_err-check-2.ensures.1 in
    rw (p.1, p.2) (record {
      both_checked = second-refused c.args.context c.args.left.now c.args.right.now
          (tree-passes c.args.context c.args.left.now c.args.work.now c.requires c.in_ok-check.ensures.result_value) _
          (tree-refused c.args.context c.args.right.now c.check.new.work (room ∙ c.requires) _ c.in_err-check-2.ensures.result_value);
      work_len_unchanged = same-room c.check.new.work c.check-2.ensures.work_after ∙ room;
    })

pub returns : goal.returns
returns c =
    let room = same-room c.args.work.now c.check.ensures.work_after in
    record {
      both_checked = both-pass c.args.context c.args.left.now c.args.right.now
          (tree-passes c.args.context c.args.left.now c.args.work.now c.requires c.in_ok-check.ensures.result_value)
          (tree-passes c.args.context c.args.right.now c.check.new.work (room ∙ c.requires) c.in_ok-check-2.ensures.result_value);
      work_len_unchanged = same-room c.check.new.work c.check-2.ensures.work_after ∙ room;
    }
