use Rattle.std.proofs.lemmas.Result.{err_from_is_err_and}
use mathlib.Core.Path.{refl}
use Rattle.accept_entry.proofs.Judging.{policy-refused, policy-read, policy-good}
use Rattle.accept_entry.proofs.accept_read.Goals as goal

pub accept_tree-requires : goal.accept_tree-requires
accept_tree-requires c = (policy-good c.args.policy.now _ _ refl c.in_ok-root.ensures refl, c.requires)

pub returns-in_err-root : goal.returns-in_err-root
returns-in_err-root c =
    let p = err_from_is_err_and c.from_residual.result c.from_residual.ensures.1 in
    rw (p.1, p.2) (record {
      results = λ x k. policy-refused c.args.policy.now _ _ refl c.in_err-root.ensures x c.args.context c.args.tree.now refl;
      work_len_unchanged = refl;
    })

pub returns : goal.returns
returns c = record {
  results = λ x k. policy-read c.args.policy.now _ _ refl c.in_ok-root.ensures x c.args.context c.args.tree.now refl (c.accept_tree.ensures.results x k);
  work_len_unchanged = c.accept_tree.ensures.work_len_unchanged;
}
