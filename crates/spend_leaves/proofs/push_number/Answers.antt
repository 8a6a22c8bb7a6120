-- `spend_leaves::push_number` meets its contract. Assumes nothing.
use Rattle.spend_leaves.proofs.Laws.{number-does}
use Rattle.spend_leaves.proofs.push_number.Goals as goal

pub push-requires : goal.push-requires
push-requires c = c.requires

pub shape_of-main : goal.shape_of-main
shape_of-main c = c.push.ensures.same

pub returns : goal.returns
returns c = number-does c.args.n (c.written-e.ensures c.args.log.now) c.push.ensures
