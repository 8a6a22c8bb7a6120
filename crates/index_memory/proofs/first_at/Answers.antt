-- `index_memory::first_at` meets its contract. Assumes nothing.
use mathlib.Core.Path.{refl}
use Rattle.index_memory.specs.Memory.{first_in}
use Rattle.index_memory.proofs.first_at.Goals as goal

pub returns : goal.returns
unfolding first_in
returns c = refl
