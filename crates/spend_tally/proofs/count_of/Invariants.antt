-- `spend_tally::count_of` meets its contract: one report more at a time. Assumes nothing.
use Prim.Native.Nat.{◌≤◌}
use mathlib.Core.Path.{◌≡◌}
use Rattle.spend_tally.specs.Tallies.{count_of}
use Rattle.spend_tally.proofs.count_of.Given as goal

abbrev pub invariant-loop-i : goal.invariant-loop-i
invariant-loop-i l = (l.count ≤ l.i) × (l.count ≡ count_of l.reports l.verdict l.i)
