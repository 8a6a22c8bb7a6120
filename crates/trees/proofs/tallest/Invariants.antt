-- `trees::tallest` meets its contract: those still to come, with the tallest before them, are all. Assumes nothing.
use Prim.Native.Nat.{◌≤◌}
use Rattle.trees.proofs.Subtrees.{TallSoFar}
use Rattle.trees.proofs.tallest.Given as goal

abbrev pub invariant-loop-i : goal.invariant-loop-i
invariant-loop-i l = (l.i ≤ l.n) × TallSoFar l.subtrees l.n l.tall l.i
