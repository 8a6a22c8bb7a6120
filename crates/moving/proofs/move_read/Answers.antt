-- `moving::move_read` meets its contract. Assumes nothing.
use native.Mathlib.Omega.{arith}
use Rattle.std.proofs.lemmas.Result.{err_from_is_err_and}
use Rattle.moving.proofs.Outcomes.{refused-large, refused-small, has_room, is-moved}
use Rattle.moving.proofs.move_read.Goals as goal

pub returns-in_err-bytes : goal.returns-in_err-bytes
returns-in_err-bytes c = let p = err_from_is_err_and c.from_residual.result c.from_residual.ensures.1 in
    rw (p.1, p.2) (refused-large c.args.form c.args.policy.now c.args.out.now c.in_err-bytes.ensures)

pub returns-then-out-bytes : goal.returns-then-out-bytes
returns-then-out-bytes c = refused-small c.args.form c.args.policy.now c.args.out.now c.in_ok-bytes.ensures (omega (arith, c.if-out-bytes.true))

pub put_policy-requires : goal.put_policy-requires
put_policy-requires c = has_room c.args.form c.args.policy.now c.args.out.now c.in_ok-bytes.ensures (omega (arith, c.if-out-bytes.false))

pub returns : goal.returns
returns c = is-moved c.args.form c.args.policy.now c.args.out.now c.in_ok-bytes.ensures (omega (arith, c.if-out-bytes.false)) c.put_policy.ensures
