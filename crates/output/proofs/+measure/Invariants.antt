-- `output::measure` falls from a node to its children, and goes over them with what is still to come.
use Rattle.output.proofs.Measuring.{MeasureInv}
use Rattle.output.proofs.+measure.Given as goal

abbrev pub decreases-measure : goal.decreases-measure
decreases-measure l = l.e

abbrev pub invariant-loop-j : goal.invariant-loop-j
invariant-loop-j l = MeasureInv l.pol l.work l.e l.left l.n l.records l.bytes l.j
