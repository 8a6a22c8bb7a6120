-- `oracle_lines::end_of` meets its contract: the piece goes on up to the sign or the end. Assumes nothing.
use Prim.Native.Nat.{◌-◌}
use lib.ListN.{length}
use Rattle.oracle_lines.proofs.Splits.{Reached}
use Rattle.oracle_lines.proofs.end_of.Given as goal

abbrev pub invariant-loop-i : goal.invariant-loop-i
invariant-loop-i l = Reached l.sign l.s l.from l.i
