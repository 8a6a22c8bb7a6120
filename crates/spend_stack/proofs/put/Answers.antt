use native.Mathlib.Omega.{arith}
use lib.ListN.{length-set}
use Rattle.spend_stack.proofs.put.Goals as goal

pub bounds-memory-i-2 : goal.bounds-memory-i-2
bounds-memory-i-2 c = simp length-set (omega arith)
