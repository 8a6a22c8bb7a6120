-- `trees::types_of` meets its contract: the types so far, with those still to come, are all. Assumes nothing.
use Prim.Native.Nat.{◌≤◌}
use mathlib.Core.Path.{◌≡◌}
use lib.ListN.{length}
use Rattle.trees.proofs.Subtrees.{TypesSoFar}
use Rattle.trees.proofs.types_of.Given as goal

abbrev pub invariant-loop-i : goal.invariant-loop-i
invariant-loop-i l = (l.i ≤ 16) × (length l.types ≡ 16) × TypesSoFar l.subtrees l.types l.i
