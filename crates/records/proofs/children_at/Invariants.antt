-- `records::children_at` meets its contract: after i turns the first i children stand in their places. Assumes nothing.
use mathlib.Core.Path.{◌≡◌}
use Prim.Native.Nat.{◌≤◌}
use Rattle.records.specs.Numbers.{u16s}
use Rattle.records.specs.Answers.{padded}
use Rattle.records.proofs.children_at.Given as goal

abbrev pub invariant-loop-i : goal.invariant-loop-i
invariant-loop-i l = (l.children ≡ padded (u16s l.bytes l.at l.i)) × (l.i ≤ l.count)
