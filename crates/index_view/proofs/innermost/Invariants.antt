-- `index_view::innermost` meets its contract: each turn passes a record that does not hold the byte. Assumes nothing.
use Prim.Native.Nat.{◌≤◌, ◌-◌}
use mathlib.Core.Path.{◌≡◌}
use Rattle.index_view.specs.View.{count, first_holding, innermost}
use Rattle.index_view.proofs.innermost.Given as goal

abbrev pub invariant-loop-i : goal.invariant-loop-i
invariant-loop-i l = (l.n ≡ count l.index) × (l.i ≤ l.n) × (first_holding l.index l.at l.i (l.n - l.i) ≡ innermost l.index l.at)
