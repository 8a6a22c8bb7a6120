-- What later nodes leave of a table: its numbers are those of nodes, and they stand for what they stood for. Assumes nothing.
use mathlib.Core.Path.{◌≡◌, refl, ◌∙◌, ap}
use mathlib.Core.List.{List, []}
use Prim.Native.Nat.{ℕ}
use native.Mathlib.Omega.{arith}
use lib.ListN.{take}
use Rattle.writing.specs.WellFormed.{AllBelow}
use Rattle.nodes.specs.Views.{seen}
use Rattle.nodes.specs.Answers.{Holds, Grows}
use Rattle.nodes.proofs.Grown.{grows-refl, grows-trans, tables-refl, tables-trans, seen-kept}
use Rattle.table.specs.declared.Table.{Table}
use Rattle.table.specs.Rows.{rows, TableHolds}
use Rattle.table.specs.Inserted.{seen_table, Extends}
use Rattle.table.proofs.Bridges.{below_more, map_below}

pub extends-refl : {m : List ℕ} → Holds m → Extends m m
extends-refl {m} h = record { holds = h; grows = grows-refl m; tables = tables-refl m; rows = refl }

pub extends-trans : {m₀ m₁ m₂ : List ℕ} → Extends m₀ m₁ → Extends m₁ m₂ → Extends m₀ m₂
extends-trans e f =
    record {
      holds = f.holds;
      grows = grows-trans e.grows f.grows;
      tables = tables-trans e.tables f.tables;
      rows = f.rows ∙ e.rows;
    }

module _ {m₀ m : List ℕ} {t : Table} (g : Grows m₀ m) (h : TableHolds m₀ t) where
  pub table_kept : TableHolds m t
  table_kept = record { few = h.few; below = below_more (rows t) g.more h.below }

  pub seen-table-kept : Holds m₀ → (pol : List ℕ) → seen_table pol m t ≡ seen_table pol m₀ t
  seen-table-kept holds pol = map_below (seen pol m) (seen pol m₀) (rows t) (seen-kept holds g pol) h.below

-- a table of no entries

no_rows : (t : Table) → t.len ≡ 0 → rows t ≡ []
no_rows t e = ap (λ (n : ℕ). take n t.entries) e

pub empty_holds : (m : List ℕ) (t : Table) → t.len ≡ 0 → TableHolds m t
unfolding AllBelow
empty_holds m t e = record { few = omega arith; below = rw (no_rows t e) tt }
