use Rattle.witness_entry.proofs.Filling.{few-loaded, few-counted, children-inside, ways-are}
use Rattle.witness_entry.proofs.ways_in.Goals as goal

pub load-children-requires : goal.load-children-requires
load-children-requires c = (few-loaded c.requires c.fragment_parts-parts.ensures c.kind_of-kind.ensures c.arity-n.ensures, children-inside c.requires c.fragment_parts-parts.ensures c.kind_of-kind.ensures c.arity-n.ensures)

pub ways_of-requires : goal.ways_of-requires
ways_of-requires c = (few-counted c.requires c.fragment_parts-parts.ensures c.kind_of-kind.ensures c.arity-n.ensures, c.load-children.ensures.few)

pub returns : goal.returns
returns c = ways-are c.requires c.fragment_parts-parts.ensures c.kind_of-kind.ensures c.arity-n.ensures c.args.context c.load-children.ensures c.ways_of.ensures
