-- `policies::put_row` meets its contract. Assumes nothing.
use Rattle.policies.proofs.put_row.Goals as goal

pub returns : goal.returns
returns c = rw (← c.put_head.ensures) c.put_children.ensures
