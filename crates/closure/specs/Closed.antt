-- What the closure of casts leaves, by its definition (definition, specs/Insertion.antt) on what nodes stand for. Acceptances take nodes one after
-- another, so the candidates that wait are the nodes from some number on. Assumes nothing.
use Rattle.refusals.specs.Numbers.{number_of}
use Rattle.refusals.specs.declared.Refusal.{Refusal}
use Rattle.std.specs.Prelude.{List, [], ◌∷◌, ◌≡◌, ℕ, zero, suc, ◌-◌, ◌≤◌, Result, Ok, Err}
use Rattle.contexts.specs.declared.Context.{Context}
use Rattle.candidates.specs.declared.Candidate as code
use Rattle.definition.specs.Candidates.{all_casts, cast_no}
use Rattle.definition.specs.Tables as definition
use Rattle.definition.specs.Tables.{Probs}
use Rattle.definition.specs.Refusals.{State, Stored, Res, done, refused}
use Rattle.definition.specs.Insertion.{queued, offer, cast_all, insert_closure}
use Rattle.memory.specs.Layout.{node_count}
use Rattle.nodes.specs.Views.{seen, seen_all, offered}
use Rattle.table.specs.declared.Table.{Table}
use Rattle.table.specs.Rows.{TableHolds}
use Rattle.table.specs.Inserted.{state_of, seen_table, Extends}
use Rattle.closure.specs.declared.Closed.{Closed}

-- n numbers from h on
unfoldable pub numbers_from : (h n : ℕ) → List ℕ
numbers_from h zero = []
numbers_from h (suc n) = h ∷ numbers_from (suc h) n

-- the nodes from h on wait to be cast
abbrev pub waiting : (pol m : List ℕ) → (h : ℕ) → definition.Table
waiting pol m h = seen_all pol m (numbers_from h (node_count m - h))

abbrev pub answer : {A : Type 0} → Result (Unit {0}) Refusal → A → State → Res A
answer (Ok tt) a s = done a s
answer (Err n) a s = refused (number_of n)

-- one cast of node e, offered while the nodes from h on wait
pub record OfferedCast (c : Context) (p : Probs) (e number : ℕ) (t : Table) (r : Closed) (m₀ m : List ℕ) : Type 0 where
  pub says : (pol : List ℕ) (ts : List Stored) (h : ℕ) → h ≤ node_count m₀ →
      offer c p (cast_no c number (seen pol m₀ e)) (queued (seen_table pol m₀ t) (waiting pol m₀ h)) (state_of m₀ ts)
      ≡ answer r.end (queued (seen_table pol m r.table) (waiting pol m h)) (state_of m ts)
  pub extends : Extends m₀ m
  pub table : TableHolds m r.table

-- all ten casts of node e
pub record OfferedCasts (c : Context) (p : Probs) (e : ℕ) (t : Table) (r : Closed) (m₀ m : List ℕ) : Type 0 where
  pub says : (pol : List ℕ) (ts : List Stored) (h : ℕ) → h ≤ node_count m₀ →
      cast_all c p (seen pol m₀ e) (all_casts c) (queued (seen_table pol m₀ t) (waiting pol m₀ h)) (state_of m₀ ts)
      ≡ answer r.end (queued (seen_table pol m r.table) (waiting pol m h)) (state_of m ts)
  pub extends : Extends m₀ m
  pub table : TableHolds m r.table

-- a candidate and all that casts make of it
pub record Closes (c : Context) (p : Probs) (x : code.Candidate) (t : Table) (r : Closed) (m₀ m : List ℕ) : Type 0 where
  pub says : (pol : List ℕ) (ts : List Stored) →
      insert_closure c p (offered pol m₀ x) (seen_table pol m₀ t) (state_of m₀ ts) ≡ answer r.end (seen_table pol m r.table) (state_of m ts)
  pub extends : Extends m₀ m
  pub table : TableHolds m r.table
