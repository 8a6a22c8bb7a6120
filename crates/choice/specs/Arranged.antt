-- The children of a Thresh: each is chosen as E and as W, and the one that gains most by being the E stands first, from the Thresh of
-- `best_compilations` in policy/compiler.rs, by the definition (definition, specs/Search.antt: Best, most_gaining, arranged) on what the
-- numbers of nodes stand for. Assumes nothing.
use Rattle.std.specs.Prelude.{false, List, [], ◌∷◌, ◌≡◌, ℕ, ◌<◌, ◌≤◌, Float, take}
use Rattle.std.specs.Float.{inf}
use Rattle.writing.specs.WellFormed.{AllBelow}
use Rattle.costs.specs.Price.{excess}
use Rattle.definition.specs.Tables.{Probs}
use Rattle.definition.specs.Search.{Best, most_gaining, arranged}
use Rattle.nodes.specs.Views.{seen, seen_all}
use Rattle.choice.specs.Chosen.{price_at}

-- the children as E and as W
unfoldable pub bests_of : (pol m : List ℕ) → (es ws : List ℕ) → List Best
bests_of pol m [] ws = []
bests_of pol m (e ∷ es) [] = []
bests_of pol m (e ∷ es) (w ∷ ws) = record { e = seen pol m e; w = seen pol m w } ∷ bests_of pol m es ws

-- by how much a child costs more as E than as W
abbrev pub gain_at : List ℕ → Probs → (e w : ℕ) → Float
gain_at m p e w = excess (price_at m p e) (price_at m p w)

-- the child that gains most, of those that two lists name
pub record Gains (m : List ℕ) (p : Probs) (es ws : List ℕ) (n r : ℕ) : Type 0 where
  pub says : (pol : List ℕ) → r ≡ most_gaining p 0 0 (inf false) (bests_of pol m (take n es) (take n ws))
  pub there : 1 ≤ n → r < n

-- the row of a Thresh whose child `gaining` gains most
pub record Arranges (es ws : List ℕ) (n gaining : ℕ) (row : List ℕ) : Type 0 where
  pub says : (pol m : List ℕ) → seen_all pol m (take n row) ≡ arranged gaining (bests_of pol m (take n es) (take n ws))
  pub below : (bound : ℕ) → AllBelow bound (take n es) → AllBelow bound (take n ws) → AllBelow bound (take n row)
