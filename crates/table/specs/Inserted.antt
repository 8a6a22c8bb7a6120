-- What an offer to a table leaves, by the definition of insertion (definition, specs/Insertion.antt) on what nodes stand for. Assumes nothing.
use Rattle.refusals.specs.Numbers.{number_of}
use Rattle.refusals.specs.declared.Refusal.{Refusal}
use Rattle.std.specs.Prelude.{true, false, List, ◌≡◌, ℕ, suc, ◌-◌, Result, Ok, Err}
use Rattle.contexts.specs.declared.Context.{Context}
use Rattle.candidates.specs.declared.Candidate as code
use Rattle.definition.specs.Tables as definition-tables
use Rattle.definition.specs.Tables.{Probs}
use Rattle.definition.specs.Refusals.{State, state, Stored, Res, done, refused}
use Rattle.definition.specs.Insertion.{Offered, insert}
use Rattle.memory.specs.Layout.{node_count, row_count}
use Rattle.nodes.specs.Views.{seen, seen_all, offered}
use Rattle.nodes.specs.Answers.{Holds, Grows, SameTables}
use Rattle.table.specs.declared.Table.{Table}
use Rattle.table.specs.declared.Offer.{Offer}
use Rattle.table.specs.declared.Step.{Step}
use Rattle.table.specs.Rows.{rows, TableHolds}

-- the state of the definition: every node but False and True was accepted; some tables are remembered
abbrev pub state_of : List ℕ → List Stored → State
state_of m ts = state (node_count m - 2) ts

abbrev pub seen_table : (pol m : List ℕ) → Table → definition-tables.Table
seen_table pol m t = seen_all pol m (rows t)

abbrev pub offer_answer : Result Offer Refusal → definition-tables.Table → State → Res Offered
offer_answer (Ok Offer.Entered) t s = done (record { table = t; accepted = true }) s
offer_answer (Ok Offer.TurnedAway) t s = done (record { table = t; accepted = false }) s
offer_answer (Err n) t s = refused (number_of n)

-- an accepted candidate is the next node
abbrev pub NextNode : Result Offer Refusal → code.Candidate → (m₀ m : List ℕ) → Type 0
NextNode (Ok Offer.Entered) x m₀ m = (node_count m ≡ suc (node_count m₀)) × ((pol : List ℕ) → seen pol m (node_count m₀) ≡ offered pol m₀ x)
NextNode (Ok Offer.TurnedAway) x m₀ m = node_count m ≡ node_count m₀
NextNode (Err n) x m₀ m = Unit {0}

-- nodes are only appended, tables that are remembered stay, and no row is added
pub record Extends (m₀ m : List ℕ) : Type 0 where
  pub holds : Holds m
  pub grows : Grows m₀ m
  pub tables : SameTables m₀ m
  pub rows : row_count m ≡ row_count m₀

pub record Inserted (c : Context) (p : Probs) (x : code.Candidate) (t : Table) (r : Step) (m₀ m : List ℕ) : Type 0 where
  pub says : (pol : List ℕ) (ts : List Stored) →
      insert c p (offered pol m₀ x) (seen_table pol m₀ t) (state_of m₀ ts) ≡ offer_answer r.offer (seen_table pol m r.table) (state_of m ts)
  pub extends : Extends m₀ m
  pub table : TableHolds m r.table
  pub next : NextNode r.offer x m₀ m
