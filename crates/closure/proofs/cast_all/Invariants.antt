-- `closure::cast_all` meets its contract: before the cast of a number, the casts still to come give what all ten give. Assumes nothing.
use Prim.Native.Nat.{◌≤◌}
use Rattle.definition.specs.Tables.{probs}
use Rattle.closure.proofs.Casting.{Casting}
use Rattle.closure.proofs.cast_all.Given as goal

abbrev pub invariant-loop-number : goal.invariant-loop-number
invariant-loop-number l = Casting l.context (probs l.sat l.dissat) l.e l.initial.table l.initial.work l.number l.table l.work × (l.number ≤ 10)
