-- Lists of numbers below a bound, and the nodes that such numbers name. Assumes nothing.
use mathlib.Core.Path.{◌≡◌}
use mathlib.Core.List.{List, [], ◌∷◌}
use Prim.Native.Nat.{ℕ, zero, suc, ◌<◌}
use native.Mathlib.Omega.{arith}
use lib.ListN.{length, get_or, set}
use Rattle.writing.specs.WellFormed.{AllBelow}
use Rattle.definition.specs.Tables.{Probs, cost_at}
use Rattle.memory.specs.Layout.{node_count}
use Rattle.nodes.specs.Words.{node_at}
use Rattle.nodes.specs.Views.{seen}
use Rattle.nodes.proofs.Seen.{Shows, seen-fields}
use Rattle.choice.specs.Chosen.{price_at}

module _ (bound : ℕ) where
  pub below_at : (es : List ℕ) (i : ℕ) → AllBelow bound es → i < length es → get_or es i 0 < bound
  unfolding AllBelow
  below_at [] i h l = absurd (omega arith)
  below_at (e ∷ es) zero h l = h.0
  below_at (e ∷ es) (suc i) h l = below_at es i h.1 (omega arith)

  pub below_set : (es : List ℕ) (i e : ℕ) → AllBelow bound es → e < bound → AllBelow bound (set es i e)
  unfolding AllBelow
  below_set [] i e h l = tt
  below_set (x ∷ es) zero e h l = (l, h.1)
  below_set (x ∷ es) (suc i) e h l = (h.0, below_set es i e h.1 l)

-- what a node's number stands for costs what the node costs
pub seen-price : (pol m : List ℕ) (p : Probs) (e : ℕ) → e < node_count m → cost_at p (seen pol m e) ≡ price_at m p e
seen-price pol m p e l =
    let s : Shows (seen pol m e) (node_at m e) = seen-fields pol m e l in
    let ext = s.ext in
    let cost = s.cost in
    cc
