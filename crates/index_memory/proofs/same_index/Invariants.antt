-- `index_memory::same_index` meets its contract. Assumes nothing.
use Rattle.index_memory.specs.Memory.{index_in}
use Rattle.index_memory.proofs.Lookups.{SameTo}
use Rattle.index_memory.proofs.same_index.Given as goal

abbrev pub invariant-loop-j : goal.invariant-loop-j
invariant-loop-j l = SameTo l.index (index_in l.work l.count) l.j
