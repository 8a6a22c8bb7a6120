-- `closure::insert_closure` meets its contract: the pops that are left, on what waits, give what the closure gives from its start.
-- Assumes nothing.
use Prim.Native.Nat.{◌-◌}
use Rattle.definition.specs.Tables.{probs}
use Rattle.closure.proofs.Closing.{Closing}
use Rattle.closure.proofs.insert_closure.Given as goal

abbrev pub invariant-loop-pops : goal.invariant-loop-pops
invariant-loop-pops l = Closing l.context (probs l.sat l.dissat) l.first l.initial.table l.initial.work l.pops l.table l.work

abbrev pub decreases-loop-pops : goal.decreases-loop-pops
decreases-loop-pops l = 4096 - l.pops
