-- `moving::move_policy` meets its contract. Assumes nothing.
use mathlib.Core.Path.{refl}
use Rattle.std.proofs.lemmas.Result.{err_from_is_err_and}
use Rattle.moving.proofs.Outcomes.{policy-refused, policy-read}
use Rattle.moving.proofs.move_policy.Goals as goal

pub returns-in_err-read_policy : goal.returns-in_err-read_policy
returns-in_err-read_policy c = let p = err_from_is_err_and c.from_residual.result c.from_residual.ensures.1 in
    rw (p.1, p.2) (policy-refused c.args.form c.args.policy.now c.args.out.now _ _ refl c.in_err-read_policy.ensures refl)

pub returns : goal.returns
returns c = policy-read c.args.form c.args.policy.now c.args.out.now _ _ refl c.in_ok-read_policy.ensures refl c.move_read.ensures
