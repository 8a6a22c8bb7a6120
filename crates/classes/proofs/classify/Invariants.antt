-- `classes::classify` meets its contract: every number passed has its class. Assumes nothing.
use Prim.Native.Nat.{◌-◌}
use Rattle.classes.proofs.Keep.{ClassInv}
use Rattle.classes.proofs.classify.Given as goal

abbrev pub invariant-loop-r : goal.invariant-loop-r
invariant-loop-r l = ClassInv l.initial.pol l.pol l.r
