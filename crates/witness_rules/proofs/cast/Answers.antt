use native.Mathlib.Omega.{arith}
use Rattle.witness_rules.proofs.Bounds.{loose, just-below}
use Rattle.witness_rules.proofs.cast.Goals as goal

pub and-requires : goal.and-requires
and-requires c = (loose c.requires.satisfied, rw c.just.ensures (just-below 2 (omega arith)))
