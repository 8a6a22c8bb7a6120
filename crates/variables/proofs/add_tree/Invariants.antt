use Prim.Native.Nat.{◌-◌}
use lib.ListN.{length}
use Rattle.variables.proofs.TreeGathering.{TreeOn}
use Rattle.variables.proofs.add_tree.Given as goal

abbrev pub invariant-loop-at : goal.invariant-loop-at
invariant-loop-at l = TreeOn l.tree l.initial.all l.at l.all

abbrev pub decreases-loop-at : goal.decreases-loop-at
decreases-loop-at l = length l.tree - l.at
