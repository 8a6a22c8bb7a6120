use mathlib.Core.Path.{◌≡◌}
use Prim.Native.Nat.{◌≤◌, ◌-◌}
use lib.ListN.{take, drop}
use Rattle.types.specs.ThresholdSteps.{after}
use Rattle.types.proofs.Type.threshold.Given as goal

-- what is still to come brings the children to what all of them come to
abbrev pub invariant-loop-i : goal.invariant-loop-i
invariant-loop-i l = (1 ≤ l.i) × ((l.i ≤ l.n) × (after l.children (take (l.n - l.i) (drop l.i l.subs)) ≡ after l.initial.children (take (l.n - 1) (drop 1 l.subs))))
