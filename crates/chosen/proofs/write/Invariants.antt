-- `chosen::write` meets its contract: after i turns the first i bytes stand at the front. Assumes nothing.
use mathlib.Core.Path.{◌≡◌}
use lib.ListN.{take}
use Rattle.chosen.specs.Form.{room_in}
use Rattle.chosen.proofs.write.Given as goal

abbrev pub invariant-loop-i : goal.invariant-loop-i
invariant-loop-i l = take l.i l.byte-items ≡ take l.i (room_in l.work)
