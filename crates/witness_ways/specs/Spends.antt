-- What is asked of a tree: document 02, R-9. Whether it can be satisfied, and the fewest and the most bytes of a witness that does.
use Rattle.std.specs.Prelude.{ℕ, ◌≤◌, ◌≡◌}
use Rattle.contexts.specs.declared.Context.{Context}
use Rattle.trees.specs.Fragment.{Fragment}
use Rattle.witness_ways.specs.Elements.{Witness, bytes_of}
use Rattle.witness_ways.specs.Ways.{Satisfies}

module _ (c : Context) (way : Witness → Type 0) where
  -- some way has so many bytes
  pub record Met (bytes : ℕ) : Type 0 where
    pub witness : Witness
    pub is : way witness
    pub weighs : bytes_of c witness ≡ bytes

  -- some ways have the fewest and the most bytes, and no way has fewer or more
  pub record Within (smallest largest : ℕ) : Type 0 where
    pub fewest : Met smallest
    pub most : Met largest
    pub from : (w : Witness) → way w → smallest ≤ bytes_of c w
    pub to : (w : Witness) → way w → bytes_of c w ≤ largest

-- 0 and zeros where there is no way to satisfy the tree, else 1 and the two extremes
pub data Spends (c : Context) (f : Fragment) : (found smallest largest : ℕ) → Type 0 where
  none : ((w : Witness) → Satisfies f w → ⊥) → Spends c f 0 0 0
  some : {smallest largest : ℕ} → Within c (Satisfies f) smallest largest → Spends c f 1 smallest largest
