-- `index_entry::record_size` meets its contract. Assumes nothing.
use Rattle.index_entry.proofs.Records.{its-children, from-leaf, from-children}
use native.Mathlib.Omega.{arith}
use Rattle.index_entry.proofs.record_size.Goals as goal

pub returns-then-n-eq0 : goal.returns-then-n-eq0
returns-then-n-eq0 c = from-leaf c.requires c.node_of-node.ensures c.args.context c.args.verified c.if-n-eq0.true c.leaf_size.ensures

pub ahead-requires : goal.ahead-requires
ahead-requires c = its-children c.requires c.node_of-node.ensures

pub overflow_add-result : goal.overflow_add-result
overflow_add-result c = omega (arith, c.ahead.ensures.1, c.last_size.ensures.1, (its-children c.requires c.node_of-node.ensures).few)

pub returns : goal.returns
returns c = from-children c.requires c.node_of-node.ensures c.args.context c.args.verified c.if-n-eq0.false c.ahead.ensures.0 c.last_size.ensures.0
