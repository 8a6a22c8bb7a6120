-- `index_memory::write_index` meets its contract. Assumes nothing.
use Rattle.index_memory.specs.Memory.{index_in}
use Rattle.index_memory.proofs.IndexBytes.{WriteOn}
use Rattle.index_memory.proofs.write_index.Given as goal

abbrev pub invariant-loop-j : goal.invariant-loop-j
invariant-loop-j l = WriteOn (index_in l.work l.count) l.initial.byte-items l.byte-items l.j
