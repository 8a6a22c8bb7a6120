-- `classes::find_class` meets its contract: no number passed stands for the policy. Assumes nothing.
use Prim.Native.Nat.{◌-◌}
use Rattle.classes.proofs.Keep.{FindInv}
use Rattle.classes.proofs.find_class.Given as goal

abbrev pub invariant-loop-c : goal.invariant-loop-c
invariant-loop-c l = FindInv l.pol l.r l.c
