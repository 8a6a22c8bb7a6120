-- What is offered to a table by the search of a leaf, and by the casts of a remembered table's entries, by the definition (definition,
-- specs/Search.antt) on what work memory stands for. Assumes nothing.
use Rattle.candidates.specs.declared.NotMade.{NotMade}
use Rattle.std.specs.Prelude.{Bool, true, false, cond, List, [], ◌∷◌, ◌≡◌, ℕ, ◌<◌, Float, Option, None, Some, Result, Ok, Err}
use Rattle.contexts.specs.declared.Context.{Context}
use Rattle.figures.specs.Bounds.{Small}
use Rattle.policies.specs.Policy.{Policy}
use Rattle.policies.specs.Forms.{kind_of, number_of}
use Rattle.policies.specs.Array.{policy_at}
use Rattle.writing.specs.WellFormed.{AllBelow}
use Rattle.candidates.specs.declared.Candidate as node
use Rattle.definition.specs.Candidates.{cast_no}
use Rattle.definition.specs.Tables.{Probs}
use Rattle.definition.specs.Refusals.{Stored}
use Rattle.definition.specs.Search.{leaves, inserted_if_typed, for_each}
use Rattle.definition_laws.specs.FormedPolicy.{FormedPolicy}
use Rattle.definition_laws.specs.Bodies.{body_of}
use Rattle.memory.specs.Layout.{node_count, table_count}
use Rattle.nodes.specs.Views.{seen, offered}
use Rattle.nodes.specs.Answers.{Holds}
use Rattle.nodes.specs.Offers.{Offerable}
use Rattle.cache.specs.Slots.{slot_at, Kept}
use Rattle.table.specs.declared.Table as code-table
use Rattle.table.specs.Rows.{TableHolds, priced_as, turns_away}
use Rattle.table.specs.Inserted.{state_of, seen_table, Extends}
use Rattle.closure.specs.declared.Closed.{Closed}
use Rattle.closure.specs.Closed.{answer}
use Rattle.search_state.specs.State.{slot_table}

-- ---- what a policy is

pub record IsLeaf (q : Policy) (kind number : ℕ) : Type 0 where
  pub is_kind : kind_of q ≡ kind
  pub is_number : number_of q ≡ number
  pub low : kind < 10

-- ---- a table with no entry, and leaves

pub record Empty (c : Closed) : Type 0 where
  pub none : c.table.len ≡ 0
  pub done : c.end ≡ Ok tt

-- the candidate of a leaf that is no key
pub record LeafOf (kind number r : ℕ) (x : node.Candidate) : Type 0 where
  pub says : (pol m : List ℕ) → IsLeaf (policy_at pol r) kind number → FormedPolicy (policy_at pol r) → (kind ≡ 3 → ⊥)
      → (c : Context) → body_of c (policy_at pol r) ≡ leaves c (offered pol m x ∷ [])
  pub offers : (m : List ℕ) → Offerable m x

-- ---- what was made of others

-- a candidate is offered with nothing more: there is no dissatisfaction, or the table is settled
abbrev pub alone : Option Float → Bool → Bool
alone (Some d) settled = settled
alone None settled = true

-- what leaves a table as it is: what was passed over, and what is offered alone and turned away by its type and its cost
abbrev pub leaves_all : List ℕ → Probs → (settled : Bool) → Result node.Candidate NotMade → List ℕ → Bool
leaves_all m p settled (Ok y) es = cond (alone p.dissat settled) (turns_away m p (priced_as p y) es) false
leaves_all m p settled (Err NotMade.PassedOver) es = true
leaves_all m p settled (Err NotMade.Missing) es = false

pub record SmallIfMade (x : Result node.Candidate NotMade) : Type 0 where
  pub small : (y : node.Candidate) → x ≡ Ok y → Small y.ext

-- ---- casts of the entries of a slot

pub record InsertedCast (c : Context) (p : Probs) (e number : ℕ) (t : code-table.Table) (r : Closed) (m₀ m : List ℕ) : Type 0 where
  pub says : (pol : List ℕ) (ts : List Stored) →
      inserted_if_typed c p (cast_no c number (seen pol m₀ e)) (seen_table pol m₀ t) (state_of m₀ ts)
      ≡ answer r.end (seen_table pol m r.table) (state_of m ts)
  pub extends : Extends m₀ m
  pub table : TableHolds m r.table

pub record SlotReady (m : List ℕ) (s : ℕ) : Type 0 where
  pub nodes : Holds m
  pub tables : Kept m
  pub there : s < table_count m
  pub below : AllBelow (node_count m) (slot_at m s).entries

pub record InsertedCasts (c : Context) (p : Probs) (s number : ℕ) (t : code-table.Table) (r : Closed) (m₀ m : List ℕ) : Type 0 where
  pub says : (pol : List ℕ) (ts : List Stored) →
      for_each (λ x. inserted_if_typed c p (cast_no c number x)) (slot_table pol m₀ s) (seen_table pol m₀ t) (state_of m₀ ts)
      ≡ answer r.end (seen_table pol m r.table) (state_of m ts)
  pub extends : Extends m₀ m
  pub table : TableHolds m r.table
