-- `pairing::pair_of` meets its contract: what does not fit is passed over. Assumes nothing.
use Rattle.nodes.specs.Words.{node_at}
use Rattle.pairing.proofs.Placed.{small-node}
use Rattle.pairing.proofs.Fitting.{pair-passed, pair-of-nodes}
use Rattle.pairing.proofs.pair_of.Goals as goal

pub type_at-requires : goal.type_at-requires
type_at-requires c = c.requires

pub type_at-requires-2 : goal.type_at-requires-2
type_at-requires-2 c = c.requires

pub node-x-requires : goal.node-x-requires
node-x-requires c = c.requires

pub node-y-requires : goal.node-y-requires
node-y-requires c = c.requires

pub pair-requires : goal.pair-requires
pair-requires c = (small-node c.args.work.now c.args.l c.node-x.ensures, small-node c.args.work.now c.args.r c.node-y.ensures)

pub returns-then-fits : goal.returns-then-fits
returns-then-fits c = pair-of-nodes c.args.kind c.args.l c.args.r c.args.lw c.args.rw c.node-x.ensures c.node-y.ensures c.pair.ensures

pub returns : goal.returns
returns c = pair-passed c.args.kind (node_at c.args.work.now c.args.l) (node_at c.args.work.now c.args.r) c.args.l c.args.r c.args.lw c.args.rw
    c.type_at.ensures c.type_at-2.ensures c.fits.ensures c.if-fits.false
