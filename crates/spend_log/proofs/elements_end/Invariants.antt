-- `spend_log::elements_end` meets its contract: what is still to come ends where all of it does. Assumes nothing.
use Prim.Native.Nat.{◌-◌, ◌≤◌}
use mathlib.Core.Path.{◌≡◌}
use lib.ListN.{length}
use Rattle.spend_log.specs.Readers.{several}
use Rattle.spend_log.specs.Logs.{element}
use Rattle.spend_log.specs.Places.{place_of}
use Rattle.spend_log.proofs.elements_end.Given as goal

abbrev pub invariant-loop-i : goal.invariant-loop-i
invariant-loop-i l = (l.to ≤ length l.log) × (l.i ≤ l.n) × (place_of (several element (l.n - l.i)) l.log l.to ≡ place_of (several element l.n) l.log l.at)
