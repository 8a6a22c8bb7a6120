-- `chosen::bytes_at` meets its contract: after j turns the first j bytes stand in their places. Assumes nothing.
use mathlib.Core.Path.{◌≡◌}
use lib.ListN.{take, drop}
use Rattle.chosen.specs.Form.{room_in}
use Rattle.chosen.proofs.bytes_at.Given as goal

abbrev pub invariant-loop-j : goal.invariant-loop-j
invariant-loop-j l = take l.j l.byte-items ≡ take l.j (drop l.at (room_in l.work))
