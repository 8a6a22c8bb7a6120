-- `spend_entry::replay_checked` meets its contract: the check refuses the tree, or it is replayed. Assumes nothing.
use native.Mathlib.Omega.{arith}
use mathlib.Core.Path.{refl, sym, ◌∙◌}
use Rattle.std.proofs.lemmas.Result.{err_from_is_err_and}
use Rattle.claspwillow.proofs.CheckLaws.{passed-as, same-room}
use Rattle.spend_stack.specs.Memory.{starts_in}
use Rattle.spend_stack.proofs.Memory.{starts-long, starts-same}
use Rattle.spend_entry.proofs.Promised.{written, check-passes, check-refuses}
use Rattle.spend_entry.proofs.replay_checked.Goals as goal

pub slice_bounds-tree-count : goal.slice_bounds-tree-count
slice_bounds-tree-count c = omega (arith, c.requires.0.lies.keys)

pub returns-in_err-check : goal.returns-in_err-check
returns-in_err-check c = let room = starts-long c.args.work.now c.requires.1 in
    let p = err_from_is_err_and c.from_residual.result c.from_residual.ensures.1 in
    rw (p.1, p.2) (record {
      gives = check-refuses c.args.log.now c.args.head c.args.count c.requires.0 c.args.out.now c.args.work.now c.requires.1 (starts_in c.args.work.now)
          c.in_err-check.ensures.result_value room;
      work_len_unchanged = starts-same c.args.work.now c.requires.1 c.check.new.work (same-room (starts_in c.args.work.now) c.check.ensures.work_after);
    })

pub replay_tree-requires : goal.replay_tree-requires
replay_tree-requires c = let p = passed-as c.args.head.context _ (starts_in c.args.work.now) c.in_ok-check.ensures.result_value in (
  c.requires.0,
  refl,
  written p,
  starts-same c.args.work.now c.requires.1 c.check.new.work (same-room (starts_in c.args.work.now) c.check.ensures.work_after) ∙ c.requires.1,
)

pub returns : goal.returns
returns c = let room = starts-long c.args.work.now c.requires.1 in
    let p = passed-as c.args.head.context _ (starts_in c.args.work.now) c.in_ok-check.ensures.result_value in record {
      gives = check-passes c.args.log.now c.args.head c.args.count c.requires.0 c.args.out.now c.args.work.now c.requires.1 p room c.context_of-context.ensures
          (c.replay_tree.ensures.gives p.typed.tree (written p).rows);
      work_len_unchanged = c.replay_tree.ensures.work_len_unchanged
          ∙ starts-same c.args.work.now c.requires.1 c.check.new.work (same-room (starts_in c.args.work.now) c.check.ensures.work_after);
    }
