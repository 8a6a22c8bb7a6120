use Prim.Native.Nat.{◌-◌}
use mathlib.Core.Path.{◌≡◌}
use lib.ListN.{length}
use Rattle.tree_figures.proofs.Filling.{FiguresOn}
use Rattle.tree_figures.proofs.all_valid.Given as goal

abbrev pub invariant-loop-at : goal.invariant-loop-at
invariant-loop-at l = FiguresOn l.context l.tree l.work l.at l.i × (length l.work ≡ length l.initial.work)

abbrev pub decreases-loop-at : goal.decreases-loop-at
decreases-loop-at l = length l.tree - l.at
