-- `chosen::zero_behind` meets its contract: bytes up to the end of their word, then words. Assumes nothing.
use mathlib.Core.Path.{◌≡◌}
use Prim.Native.Nat.{◌-◌, ◌≤◌}
use lib.ListN.{drop}
use Rattle.chosen.specs.Form.{tree_bytes, room_in}
use Rattle.chosen.specs.Chosen.{all_zero}
use Rattle.chosen.proofs.zero_behind.Given as goal

abbrev pub invariant-loop-i : goal.invariant-loop-i
invariant-loop-i l = (all_zero (drop l.i (room_in l.work)) ≡ all_zero (drop l.n (room_in l.work))) × (l.i ≤ tree_bytes)
