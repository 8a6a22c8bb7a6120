use native.Mathlib.Omega.{arith}
use Rattle.witness_rules.proofs.Bounds.{loose}
use Rattle.witness_rules.proofs.count_child.Goals as goal

pub and-requires : goal.and-requires
and-requires c = (c.requires.1 0 (omega arith), loose c.requires.0.dissatisfied)
