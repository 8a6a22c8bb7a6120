use Rattle.std.proofs.lemmas.Result.{err_from_is_err_and}
use mathlib.Core.Path.{◌∙◌}
use lib.ListN.{take}
use Rattle.policies.specs.Array.{policy_at}
use Rattle.claspwillow.proofs.CheckLaws.{same-room}
use Rattle.accept_entry.proofs.Judging.{first-long, joined-long, tree-written, tree-refused, tree-judged}
use Rattle.accept_entry.proofs.accept_tree.Goals as goal

pub accept_typed-requires : goal.accept_typed-requires
accept_typed-requires c =
    let room = first-long c.args.work.now c.requires.1 in
    let long = joined-long c.args.work.now c.check.new.work c.requires.1 (same-room (take 4096 c.args.work.now) c.check.ensures.work_after ∙ room) in
    (c.requires.0, (tree-written c.args.context c.args.tree.now (take 4096 c.args.work.now) room c.in_ok-t.ensures.result_value, long))

pub returns-clause-results : goal.returns-clause-results
returns-clause-results c =
    let room = first-long c.args.work.now c.requires.1 in
    tree-judged c.args.context c.args.tree.now (take 4096 c.args.work.now) room c.in_ok-t.ensures.result_value c.context_of.ensures
    (policy_at c.args.pol.now c.args.root) c.accept_typed.ensures.typed_results

pub returns-in_err-t-clause-results : goal.returns-in_err-t-clause-results
returns-in_err-t-clause-results c =
    let room = first-long c.args.work.now c.requires.1 in
    let p = err_from_is_err_and c.from_residual.result c.from_residual.ensures.1 in
    rw (p.1, p.2) (λ x q. tree-refused c.args.context c.args.tree.now (take 4096 c.args.work.now) room _ c.in_err-t.ensures.result_value
    (policy_at c.args.pol.now c.args.root) x)
