-- What the run of a record's script asks and leaves: document 02, R-6.
use Rattle.std.specs.Prelude.{ℕ, ◌≤◌, true, List, ◌≡◌}
use Rattle.contexts.specs.declared.Context.{Context}
use Rattle.walk.specs.TreeRecords.{record_at, fragment_at}
use Rattle.walk.specs.Nodes.{Placed}
use Rattle.script_machine.specs.Numbers.{Bytes}
use Rattle.script_bytes.specs.ScriptOf.{has_entries}
use Rattle.script_leaves.specs.Leaves.{leaf_of}
use Rattle.spend_machine.specs.Playing.{plays}
use Rattle.spend_log.specs.declared.Offsets.{Offsets}
use Rattle.spend_log.specs.Places.{tree_in, tables_in, Lies}
use Rattle.spend_stack.specs.declared.Machine.{Machine}
use Rattle.spend_stack.specs.Machines.{run_of, Fits}

-- A log's head lies at its places; all records of its tree up to number i are placed, and their own numbers have whole table entries.
pub record Runs (c : Context) (log : Bytes) (h : Offsets) (tree starts : List ℕ) (i : ℕ) : Type 0 where
  pub lies : Lies log h
  pub is-tree : tree ≡ tree_in log h
  pub placed : (j : ℕ) → j ≤ i → Placed tree starts j
  pub entries : (j : ℕ) → j ≤ i → has_entries c (tables_in log h) (leaf_of (record_at tree j)) ≡ true

-- The script of record i was run.
pub record Played (c : Context) (log : Bytes) (h : Offsets) (tree : List ℕ) (i : ℕ) (main alt main' alt' : List ℕ) (m r : Machine) : Type 0 where
  pub says : run_of log main' alt' r ≡ plays c (tables_in log h) (fragment_at tree i) (run_of log main alt m)
  pub fits : Fits log main' r
