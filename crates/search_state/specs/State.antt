-- Work memory as the state that the definition of compile speaks of (definition, specs/Refusals.antt): the nodes accepted, and the tables
-- remembered, each of a policy at two probabilities. Assumes nothing.
use Rattle.std.specs.Prelude.{List, map, ◌≡◌, ℕ, ◌+◌, ◌*◌, ◌<◌, ◌≤◌, Float, Option, None, Some}
use Rattle.policies.specs.Policy.{Policy, weight}
use Rattle.policies.specs.Array.{policy_at, Good, Named}
use Rattle.classes.specs.Classes.{class_at, Classes}
use Rattle.writing.specs.WellFormed.{AllBelow}
use Rattle.definition.specs.Tables.{probs, Table}
use Rattle.definition.specs.Refusals.{Stored, State}
use Rattle.cache.specs.Slots.{Slot, slot_at, slots, Kept}
use Rattle.memory.specs.Layout.{table_count}
use Rattle.memory.specs.Layout.{node_count, row_count}
use Rattle.nodes.specs.Views.{seen_all}
use Rattle.nodes.specs.Answers.{Holds, Grows}
use Rattle.table.specs.Inserted.{state_of}

-- ---- the view

-- a table of work memory, its entries being nodes
abbrev pub stored_as : (pol m : List ℕ) → Slot → Stored
stored_as pol m t =
    record { policy = policy_at pol t.number; at = probs t.sat t.dissat; table = seen_all pol m t.entries }

abbrev pub stored_all : (pol m : List ℕ) → List Stored
stored_all pol m = map (stored_as pol m) (slots m)

abbrev pub state_in : (pol m : List ℕ) → State
state_in pol m = state_of m (stored_all pol m)

-- the table of a slot
abbrev pub slot_table : (pol m : List ℕ) → ℕ → Table
slot_table pol m s = seen_all pol m (slot_at m s).entries

-- ---- what holds

-- the policy's array: every number has its class
pub record Classed (pol : List ℕ) : Type 0 where
  pub good : Good pol
  pub classes : Classes pol

-- a slot's entries are nodes, and its policy's number is a class
pub record SlotHolds (pol m : List ℕ) (t : Slot) : Type 0 where
  pub below : AllBelow (node_count m) t.entries
  pub named : Named pol t.number
  pub class : class_at pol t.number ≡ t.number

pub record Ready (pol m : List ℕ) : Type 0 where
  pub nodes : Holds m
  pub tables : Kept m
  pub slots : (s : ℕ) → s < table_count m → SlotHolds pol m (slot_at m s)

-- nodes, rows and tables are only appended
pub record Onward (m₀ m : List ℕ) : Type 0 where
  pub grows : Grows m₀ m
  pub more : table_count m₀ ≤ table_count m
  pub slots : (s : ℕ) → s < table_count m₀ → slot_at m s ≡ slot_at m₀ s

-- ---- room for rows: one search remembers at most as many tables as it makes rows, and what it searches in turn weighs less

abbrev pub flag_of : Option Float → ℕ
flag_of (Some d) = 1
flag_of None = 0

-- what falls from a search to those that it asks for
abbrev pub load : Policy → Option Float → ℕ
load q dissat = 2 * weight q + flag_of dissat

-- a search of this policy, and of all that it asks for, has rows enough; `extra` is 1 once it made its own
abbrev pub Room : (extra : ℕ) → Policy → Option Float → List ℕ → Type 0
Room extra q dissat m = row_count m + load q dissat ≤ table_count m + 385 + extra

-- no more rows than tables were added, but for some
abbrev pub Paid : (extra : ℕ) → (m₀ m : List ℕ) → Type 0
Paid extra m₀ m = row_count m + table_count m₀ ≤ row_count m₀ + table_count m + extra
