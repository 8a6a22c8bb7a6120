-- `walk::node_of` meets its contract: its parts are those that the reader of records told. Assumes nothing.
use Rattle.walk.proofs.node_of.Goals as goal

pub returns : goal.returns
returns c = simp (c.arity.ensures, c.kind_of-kind.ensures, c.fragment_parts-parts.ensures)
