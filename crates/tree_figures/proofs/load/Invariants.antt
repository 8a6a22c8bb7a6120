use Rattle.tree_figures.specs.Memory.{Loaded}
use Rattle.tree_figures.proofs.load.Given as goal

abbrev pub invariant-loop-j : goal.invariant-loop-j
invariant-loop-j l = Loaded l.work l.numbers l.j l.out
