-- `output::front_of` meets its contract. Assumes nothing.
use Rattle.output.proofs.Measuring.{count-read-few, front_read}
use Rattle.output.proofs.front_of.Goals as goal

pub front_length-requires : goal.front_length-requires
front_length-requires c = count-read-few c.args.pol.now c.args.work.now c.args.e _ _ c.node-x.ensures c.head_of-head.ensures c.requires.1

pub returns : goal.returns
returns c = front_read c.args.pol.now c.args.work.now c.args.e _ _ c.node-x.ensures c.head_of-head.ensures c.requires.1 _ c.front_length.ensures
