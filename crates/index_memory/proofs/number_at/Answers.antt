-- `index_memory::number_at` meets its contract. Assumes nothing.
use native.Mathlib.Omega.{arith}
use Rattle.index_memory.proofs.IndexBytes.{type-part, height-part, first_part, size-part}
use Rattle.index_memory.proofs.number_at.Goals as goal

pub returns-in-0 : goal.returns-in-0
returns-in-0 c = type-part c.args.work.now c.args.i c.in-0.is c.subtree_at.ensures c.pack.ensures

pub returns-in-1 : goal.returns-in-1
returns-in-1 c = height-part c.args.work.now c.args.i c.in-1.is c.subtree_at-in-1.ensures

pub returns-in-2 : goal.returns-in-2
returns-in-2 c = first_part c.args.work.now c.args.i c.in-2.is c.first_at.ensures

pub returns-in_default : goal.returns-in_default
returns-in_default c = size-part c.args.work.now c.args.i c.args.place (λ e. omega arith) (λ e. omega arith) (λ e. omega arith) c.size_at.ensures.0
