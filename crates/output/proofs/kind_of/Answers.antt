-- `output::kind_of` meets its contract. Assumes nothing.
use Rattle.output.proofs.Children.{kind-read}
use Rattle.output.proofs.kind_of.Goals as goal

pub returns : goal.returns
returns c = kind-read c.args.work.now c.args.e _ c.node.ensures _ c.fragment_kind.ensures
