-- `movers::move_to` meets its contract. Assumes nothing.
use Rattle.movers.proofs.Promised.{moved, refuses}
use Rattle.movers.proofs.move_to.Goals as goal

pub returns-in-Ok : goal.returns-in-Ok
returns-in-Ok c = moved c.args.form c.args.policy.now c.args.out.now _ (rw c.in-Ok.is at c.move_policy.ensures)

pub returns-in-Err : goal.returns-in-Err
returns-in-Err c = rw c.number.ensures (refuses c.args.form c.args.policy.now c.args.out.now _ (rw c.in-Err.is at c.move_policy.ensures))
