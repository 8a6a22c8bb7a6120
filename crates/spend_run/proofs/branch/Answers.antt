-- `spend_run::branch` meets its contract. Assumes nothing.
use Rattle.spend_run.proofs.Turning.{branches-yes, branches-no}
use Rattle.spend_run.proofs.branch.Goals as goal

pub takes-taken-requires : goal.takes-taken-requires
takes-taken-requires c = c.requires

pub open-m-requires : goal.open-m-requires
open-m-requires c = c.requires
