-- `differ::same_keys` meets its contract: the keys passed are the same, and the others are still to come. Assumes nothing.
use Rattle.differ.proofs.Sides.{KeysToCome}
use Rattle.differ.proofs.same_keys.Given as goal

abbrev pub invariant-loop-j : goal.invariant-loop-j
invariant-loop-j l = KeysToCome l.left l.right l.count l.j
