-- Work memory that goes on: what was remembered stays, and stands for the same tables. Assumes nothing.
use mathlib.Core.Path.{◌≡◌, refl, sym, ap, ◌∙◌, subst}
use mathlib.Core.List.{List, [], ◌∷◌, map}
use Prim.Native.Nat.{ℕ, zero, suc, ◌-◌, ◌<◌, ◌≤◌}
use native.Mathlib.Omega.{arith}
use Rattle.writing.specs.WellFormed.{AllBelow}
use Rattle.definition.specs.Candidates.{Candidate}
use Rattle.definition.specs.Tables as definition
use Rattle.definition.specs.Refusals.{state, Stored}
use Rattle.memory.specs.Layout.{table_count}
use Rattle.cache.specs.Slots.{slot_at, slots_up_to}
use Rattle.cache.proofs.Tables.{slot_same}
use Rattle.memory.specs.Layout.{node_count}
use Rattle.nodes.specs.Views.{seen, seen_all}
use Rattle.nodes.specs.Answers.{Holds, Grows, SameTables, OneRow}
use Rattle.nodes.proofs.Grown.{grows-refl, grows-trans, seen-kept}
use Rattle.table.specs.declared.Table.{Table}
use Rattle.table.specs.Rows.{rows, TableHolds}
use Rattle.table.specs.Inserted.{seen_table, Extends}
use Rattle.search_state.specs.State.{stored_as, stored_all, state_in, SlotHolds, Ready, Onward}

-- ---- going on

pub onward-refl : (m : List ℕ) → Onward m m
onward-refl m = record { grows = grows-refl m; more = omega arith; slots = λ s h. refl }

pub onward-trans : {m₀ m₁ m₂ : List ℕ} → Onward m₀ m₁ → Onward m₁ m₂ → Onward m₀ m₂
onward-trans a b =
    record {
      grows = grows-trans a.grows b.grows;
      more = omega (arith, a.more, b.more);
      slots = λ s h. b.slots s (omega (arith, a.more)) ∙ a.slots s h;
    }

-- ---- lists of node numbers

pub below_more : (n k : ℕ) (es : List ℕ) → n ≤ k → AllBelow n es → AllBelow k es
unfolding AllBelow
below_more n k [] h b = tt
below_more n k (e ∷ es) h b = (omega (arith, b.0), below_more n k es h b.1)

pub entries-kept : {m₀ m : List ℕ} → Holds m₀ → Grows m₀ m → (pol es : List ℕ) → AllBelow (node_count m₀) es → seen_all pol m es ≡ seen_all pol m₀ es
unfolding AllBelow
entries-kept holds grows pol [] b = refl
entries-kept {m₀} {m} holds grows pol (e ∷ es) b =
    ap (λ (x : Candidate). x ∷ seen_all pol m es) (seen-kept holds grows pol e b.0)
    ∙ ap (λ (xs : definition.Table). seen pol m₀ e ∷ xs) (entries-kept holds grows pol es b.1)

-- ---- what was there before

module _ {pol m₀ m : List ℕ} (ready : Ready pol m₀) (onward : Onward m₀ m) where
  -- a table under construction
  pub onward-table : (t : Table) → TableHolds m₀ t → seen_table pol m t ≡ seen_table pol m₀ t
  onward-table t h = entries-kept ready.nodes onward.grows pol (rows t) h.below

  pub onward-holds : (t : Table) → TableHolds m₀ t → TableHolds m t
  onward-holds t h = record { few = h.few; below = below_more (node_count m₀) (node_count m) (rows t) onward.grows.more h.below }

  pub slot-holds : (s : ℕ) → s < table_count m₀ → SlotHolds pol m (slot_at m s)
  slot-holds s h =
      let old : SlotHolds pol m₀ (slot_at m₀ s) = ready.slots s h in
      subst (SlotHolds pol m) (sym (onward.slots s h))
      (record {
        below = below_more (node_count m₀) (node_count m) (slot_at m₀ s).entries onward.grows.more old.below;
        named = old.named;
        class = old.class;
      })

  stored_one : (s : ℕ) → s < table_count m₀ → stored_as pol m (slot_at m s) ≡ stored_as pol m₀ (slot_at m₀ s)
  stored_one s h =
      ap (stored_as pol m) (onward.slots s h)
      ∙ ap (λ (xs : definition.Table). record { policy = old.policy; at = old.at; table = xs })
      (entries-kept ready.nodes onward.grows pol (slot_at m₀ s).entries (ready.slots s h).below)
    where
      old : Stored
      old = stored_as pol m₀ (slot_at m₀ s)

  pub stored-kept : (n : ℕ) → n ≤ table_count m₀ → map (stored_as pol m) (slots_up_to m n) ≡ map (stored_as pol m₀) (slots_up_to m₀ n)
  unfolding slots_up_to
  stored-kept zero h = refl
  stored-kept (suc n) h =
      ap (λ (t : Stored). t ∷ map (stored_as pol m) (slots_up_to m n)) (stored_one n (omega arith))
      ∙ ap (λ (ts : List Stored). stored_as pol m₀ (slot_at m₀ n) ∷ ts) (stored-kept n (omega arith))

-- ---- nodes and rows are appended, and no table

module _ {pol m₀ m : List ℕ} (ready : Ready pol m₀) (holds : Holds m) (grows : Grows m₀ m) (tables : SameTables m₀ m) where
  appended-on : Onward m₀ m
  appended-on =
      record {
        grows = grows;
        more = omega (arith, tables.count);
        slots =
            λ s h.
            let few = ready.tables.few in
            slot_same m₀ m s (λ at l u. tables.words at (omega arith) (omega arith)) (λ at l u. tables.words at (omega arith) (omega arith));
      }

  pub appended-onward : Ready pol m × Onward m₀ m
  appended-onward = (
    record {
      nodes = holds;
      tables = record { long = holds.long; few = omega (arith, tables.count, ready.tables.few) };
      slots = λ s h. slot-holds ready appended-on s (omega (arith, tables.count));
    },
    appended-on,
  )

  pub appended-stored : stored_all pol m ≡ stored_all pol m₀
  appended-stored =
      ap (λ (n : ℕ). map (stored_as pol m) (slots_up_to m n)) tables.count ∙ stored-kept ready appended-on (table_count m₀) (omega arith)

-- some nodes
module _ {pol m₀ m : List ℕ} (ready : Ready pol m₀) (extends : Extends m₀ m) where
  pub extends-onward : Ready pol m × Onward m₀ m
  extends-onward = appended-onward ready extends.holds extends.grows extends.tables

  pub extends-stored : stored_all pol m ≡ stored_all pol m₀
  extends-stored = appended-stored ready extends.holds extends.grows extends.tables

-- a row
module _ {pol m₀ m row : List ℕ} {r : ℕ} (ready : Ready pol m₀) (one : OneRow m₀ m row r) where
  pub row-onward : Ready pol m × Onward m₀ m
  row-onward = appended-onward ready one.holds one.grows one.tables

  -- the definition knows of no row
  pub row-state : state_in pol m ≡ state_in pol m₀
  row-state =
      ap (λ (n : ℕ). state (n - 2) (stored_all pol m)) one.count
      ∙ ap (λ (ts : List Stored). state (node_count m₀ - 2) ts) (appended-stored ready one.holds one.grows one.tables)
