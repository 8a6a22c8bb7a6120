-- `pairing::triple_of` meets its contract: what is ill-typed is passed over. Assumes nothing.
use Rattle.nodes.specs.Words.{node_at}
use Rattle.pairing.proofs.Placed.{small-node}
use Rattle.pairing.proofs.Fitting.{triple-passed, triple-of-nodes}
use Rattle.pairing.proofs.triple_of.Goals as goal

pub type_at-requires : goal.type_at-requires
type_at-requires c = c.requires

pub type_at-requires-2 : goal.type_at-requires-2
type_at-requires-2 c = c.requires

pub type_at-requires-3 : goal.type_at-requires-3
type_at-requires-3 c = c.requires

pub node-x-requires : goal.node-x-requires
node-x-requires c = c.requires

pub node-y-requires : goal.node-y-requires
node-y-requires c = c.requires

pub node-z-requires : goal.node-z-requires
node-z-requires c = c.requires

pub and_or-requires-then-is_ok : goal.and_or-requires-then-is_ok
and_or-requires-then-is_ok c = (
  small-node c.args.work.now c.args.l c.node-x.ensures,
  (small-node c.args.work.now c.args.r c.node-y.ensures, small-node c.args.work.now c.args.e c.node-z.ensures),
)

pub returns-then-is_ok : goal.returns-then-is_ok
returns-then-is_ok c = triple-of-nodes c.args.l c.args.r c.args.e c.args.lw c.args.rw c.node-x.ensures c.node-y.ensures c.node-z.ensures c.and_or-then-is_ok.ensures

pub returns : goal.returns
returns c = triple-passed (node_at c.args.work.now c.args.l) (node_at c.args.work.now c.args.r) (node_at c.args.work.now c.args.e) c.args.l c.args.r
    c.args.e c.args.lw c.args.rw c.type_at.ensures c.type_at-2.ensures c.type_at-3.ensures c.and_or.ensures c.is_ok.ensures.value c.if-is_ok.false
