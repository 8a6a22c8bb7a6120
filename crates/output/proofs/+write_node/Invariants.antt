-- `output::write_node` falls from a node to its children, and goes over them with what is still to come.
use Rattle.output.proofs.Nodes.{WriteInv}
use Rattle.output.proofs.+write_node.Given as goal

abbrev pub decreases-write_node : goal.decreases-write_node
decreases-write_node l = l.e

abbrev pub invariant-loop-j : goal.invariant-loop-j
invariant-loop-j l = WriteInv l.pol l.work l.e l.initial.out l.at l.n l.arity l.out l.row l.to l.records l.j
