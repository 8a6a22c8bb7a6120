-- `spend_leaves::push_key` meets its contract. Assumes nothing.
use Rattle.spend_leaves.proofs.Ranges.{key-reaches}
use Rattle.spend_leaves.proofs.Pieces.{key-acts}
use Rattle.spend_leaves.proofs.push_key.Goals as goal

pub push_entry-requires : goal.push_entry-requires
push_entry-requires c = (c.requires.0, key-reaches c.args.context c.args.log.now c.args.head c.args.i c.requires.1 c.key_size-size.ensures)

pub shape_of-main : goal.shape_of-main
shape_of-main c = c.push_entry.ensures.same

pub returns : goal.returns
returns c = key-acts c.args.context c.args.log.now c.args.head c.args.i c.requires.1 c.key_size-size.ensures c.push_entry.ensures
