-- `differ::differ` meets its contract: the context, work memory or the checks refuse, or the differences are told. Assumes nothing.
use Rattle.std.proofs.lemmas.Result.{err_from_is_err_and}
use mathlib.Core.Path.{refl, sym, ◌∙◌}
use Rattle.differ.proofs.Halves.{first-long, joined-long}
use Rattle.differ.proofs.Promised.{written-left, written-right, differ-done, differ-refused, gives_as, refuses, no-such-context, other-length}
use Rattle.differ.proofs.differ.Goals as goal

pub returns-then-context-ge2 : goal.returns-then-context-ge2
returns-then-context-ge2 c = record {
  gives = gives_as (no-such-context c.args.context c.args.left.now c.args.right.now c.args.out.now c.args.work.now c.if-context-ge2.true) (refuses refl);
  work_len_unchanged = refl;
}

pub returns-then-work-ne-WORK_WORDS : goal.returns-then-work-ne-WORK_WORDS
returns-then-work-ne-WORK_WORDS c = record {
  gives = gives_as (other-length c.args.context c.args.left.now c.args.right.now c.args.out.now c.args.work.now c.if-context-ge2.false c.if-work-ne-WORK_WORDS.true)
      (refuses refl);
  work_len_unchanged = refl;
}

pub check_both-requires : goal.check_both-requires
check_both-requires c = first-long 4096 8192 refl c.args.work.now c.if-work-ne-WORK_WORDS.false

pub returns-in_err-check_both : goal.returns-in_err-check_both
returns-in_err-check_both c =
    let room = c.if-work-ne-WORK_WORDS.false in
    let p = err_from_is_err_and c.from_residual.result c.from_residual.ensures.1 in
    rw (p.1, p.2) (record {
      gives = gives_as (differ-refused c.args.context c.args.left.now c.args.right.now c.args.out.now c.args.work.now room c.in_err-check_both.ensures.both_checked)
          (refuses refl);
      work_len_unchanged = joined-long 4096 8192 refl c.args.work.now c.check_both.new.work room
          (c.check_both.ensures.work_len_unchanged ∙ first-long 4096 8192 refl c.args.work.now room) ∙ sym room;
    })

pub differ_in-requires : goal.differ_in-requires
differ_in-requires c =
    let room = c.if-work-ne-WORK_WORDS.false in
    let p = c.in_ok-check_both.ensures.both_checked in (
      written-left c.args.context c.args.left.now c.args.right.now p,
      written-right c.args.context c.args.left.now c.args.right.now p,
      joined-long 4096 8192 refl c.args.work.now c.check_both.new.work room
          (c.check_both.ensures.work_len_unchanged ∙ first-long 4096 8192 refl c.args.work.now room),
    )

pub returns : goal.returns
returns c =
    let room = c.if-work-ne-WORK_WORDS.false in
    record {
      gives = gives_as (differ-done c.args.context c.args.left.now c.args.right.now c.args.out.now c.args.work.now room c.in_ok-check_both.ensures.both_checked)
          c.differ_in.ensures.gives;
      work_len_unchanged = c.differ_in.ensures.work_len_unchanged ∙ joined-long 4096 8192 refl c.args.work.now c.check_both.new.work room
          (c.check_both.ensures.work_len_unchanged ∙ first-long 4096 8192 refl c.args.work.now room) ∙ sym room;
    }
