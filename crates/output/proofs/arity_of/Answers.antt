-- `output::arity_of` meets its contract. Assumes nothing.
use Rattle.output.proofs.Children.{arity-read}
use Rattle.output.proofs.arity_of.Goals as goal

pub returns : goal.returns
returns c = arity-read c.args.work.now c.args.e _ c.node-x.ensures c.args.pol.now _ _ c.head_of-head.ensures c.arity.ensures
