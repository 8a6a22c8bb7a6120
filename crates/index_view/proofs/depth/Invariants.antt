-- `index_view::depth` meets its contract: each turn counts one record more, if it holds the byte. Assumes nothing.
use Prim.Native.Nat.{◌+◌, ◌≤◌, ◌<◌, ◌-◌}
use mathlib.Core.Path.{◌≡◌}
use Rattle.index_view.specs.View.{count, holding, depth}
use Rattle.index_view.proofs.depth.Given as goal

abbrev pub invariant-loop-k : goal.invariant-loop-k
invariant-loop-k l = (l.n ≡ count l.index) × (l.deep + l.i < l.k) × (l.k ≤ l.n) × (l.deep + holding l.index l.at l.k (l.n - l.k) ≡ depth l.index l.i l.at)
