use native.Mathlib.Omega.{arith}
use Rattle.witness_rules.proofs.Bounds.{loose, just-below}
use Rattle.witness_rules.proofs.branch.Goals as goal

pub and-requires : goal.and-requires
and-requires c = (loose c.requires.0, rw c.just.ensures (just-below 2 (omega arith)))

pub and-requires-2 : goal.and-requires-2
and-requires-2 c = (loose c.requires.1, rw c.just-2.ensures (just-below 1 (omega arith)))
