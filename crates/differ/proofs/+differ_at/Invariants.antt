use Rattle.differ.proofs.Walking.{DifferOn}
use Rattle.differ.proofs.+differ_at.Given as goal

-- what falls: the number of the record on the left
abbrev pub decreases-differ_at : goal.decreases-differ_at
decreases-differ_at l = l.i

abbrev pub invariant-loop-c : goal.invariant-loop-c
invariant-loop-c l = DifferOn l.left l.right l.initial.out l.at l.xs l.ys l.n l.out l.to l.c
