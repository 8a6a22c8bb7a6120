use native.Mathlib.Omega.{arith}
use Rattle.witness_rules.proofs.Bounds.{both-parts}
use Rattle.witness_entry.proofs.word_of.Goals as goal

pub overflow_mul-result : goal.overflow_mul-result
overflow_mul-result c = let p = both-parts (rw c.in-Some.is at c.requires) in omega (arith, p.1)

pub overflow_add-result : goal.overflow_add-result
overflow_add-result c = let p = both-parts (rw c.in-Some.is at c.requires) in omega (arith, p.0, p.1)

pub overflow_add-result-in-Some : goal.overflow_add-result-in-Some
overflow_add-result-in-Some c = let p = both-parts (rw c.in-Some.is at c.requires) in omega (arith, p.0, p.1)
