-- `oracle_lines::bytes` meets its contract: the room fills byte by byte. Assumes nothing.
use Prim.Native.Nat.{◌-◌, ◌*◌}
use lib.ListN.{length}
use Rattle.oracle_lines.proofs.Pairs.{Held}
use Rattle.oracle_lines.proofs.bytes.Given as goal

abbrev pub invariant-loop-n : goal.invariant-loop-n
invariant-loop-n l = Held l.word l.initial.room l.room l.n
