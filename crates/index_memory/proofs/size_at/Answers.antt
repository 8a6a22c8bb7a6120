-- `index_memory::size_at` meets its contract. Assumes nothing.
use Rattle.index_memory.proofs.Words.{few_bytes}
use Rattle.index_memory.specs.Memory.{size_in}
use mathlib.Core.Bool.{true, false}
use Rattle.index_memory.proofs.size_at.Goals as goal

pub returns-then-verified : goal.returns-then-verified
unfolding size_in
returns-then-verified c = (rw c.if-verified.true, few_bytes true _)

pub returns : goal.returns
unfolding size_in
returns c = (rw c.if-verified.false, few_bytes false _)
