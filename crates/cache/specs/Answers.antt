-- What storing a table leaves: document 01, "Numbers the console shows" (CacheFull, number 8: a 2,049th table would be stored).
-- Assumes nothing.
use Rattle.std.specs.Prelude.{List, ◌∷◌, ◌≡◌, ℕ, suc, ◌<◌, Option, None, Some}
use Rattle.memory.specs.Layout.{max_tables, table_count}
use Rattle.cache.specs.Slots.{Slot, slots, Kept, SameNodes}

-- one table more
pub record OneMore (m₀ m : List ℕ) (t : Slot) : Type 0 where
  pub kept : Kept m
  pub count : table_count m ≡ suc (table_count m₀)
  pub tables : slots m ≡ t ∷ slots m₀
  pub nodes : SameNodes m₀ m

pub data Stores (m₀ m : List ℕ) (t : Slot) : Option ℕ → Type 0 where
  full : table_count m₀ ≡ max_tables → m ≡ m₀ → Stores m₀ m t None
  at : {s : ℕ} → s ≡ table_count m₀ → table_count m₀ < max_tables → OneMore m₀ m t → Stores m₀ m t (Some s)
