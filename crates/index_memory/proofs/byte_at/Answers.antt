-- `index_memory::byte_at` meets its contract. Assumes nothing.
use native.Mathlib.Omega.{arith}
use Prim.Native.Nat.{◌%◌}
use Rattle.index_memory.proofs.IndexBytes.{last-digit}
use Rattle.index_memory.proofs.byte_at.Goals as goal

pub returns-in_default : goal.returns-in_default
returns-in_default c = last-digit (c.args.j % 4) (λ e. omega arith) (λ e. omega arith) (λ e. omega arith) c.number_at-n.ensures
