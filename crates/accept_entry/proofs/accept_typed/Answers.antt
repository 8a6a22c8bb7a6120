use Rattle.std.proofs.lemmas.Result.{err_from_is_err_and}
use mathlib.Core.Path.{refl, ◌∙◌}
use Rattle.policies.specs.Array.{policy_at}
use Rattle.accept_entry.proofs.Judging.{type-refused, not_valid, then-judged}
use Rattle.accept_entry.proofs.accept_typed.Goals as goal

pub returns-in_err-demand : goal.returns-in_err-demand
returns-in_err-demand c =
    let p = err_from_is_err_and c.from_residual.result c.from_residual.ensures.1 in
    rw (p.1, p.2) (record {
      typed_results = type-refused c.args.context (policy_at c.args.pol.now c.args.root) c.args.tree.now c.args.t c.in_err-demand.ensures;
      work_len_unchanged = refl;
    })

pub accept_meaning-requires : goal.accept_meaning-requires
accept_meaning-requires c = (c.requires.0, (c.requires.1.0, c.all_valid.ensures.work_len_unchanged ∙ c.requires.1.1))

pub returns-then-not-all_valid : goal.returns-then-not-all_valid
returns-then-not-all_valid c = record {
  typed_results = not_valid c.args.context (policy_at c.args.pol.now c.args.root) c.args.tree.now c.args.t c.in_ok-demand.ensures c.all_valid.ensures.value c.if-not-all_valid.true;
  work_len_unchanged = c.all_valid.ensures.work_len_unchanged;
}

pub returns : goal.returns
returns c = record {
  typed_results = then-judged c.args.context (policy_at c.args.pol.now c.args.root) c.args.tree.now c.args.t c.in_ok-demand.ensures c.all_valid.ensures.value c.if-not-all_valid.false c.accept_meaning.ensures.verdict;
  work_len_unchanged = c.accept_meaning.ensures.work_len_unchanged ∙ c.all_valid.ensures.work_len_unchanged;
}
