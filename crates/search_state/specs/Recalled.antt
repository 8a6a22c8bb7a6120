-- What asking for a remembered table, and remembering one, leave, by the definition (definition, specs/Refusals.antt and Search.antt) on what
-- work memory stands for. Assumes nothing.
use Rattle.refusals.specs.Numbers.{number_of}
use Rattle.refusals.specs.declared.Refusal.{Refusal}
use Rattle.candidates.specs.declared.Candidate.{Candidate}
use Rattle.candidates.specs.declared.NotMade.{NotMade}
use Rattle.std.specs.Prelude.{Bool, true, false, List, ◌≡◌, ℕ, suc, ◌<◌, Option, None, Some, Float, Ok, Err, Result}
use Rattle.policies.specs.Policy.{Policy}
use Rattle.definition.specs.Tables.{Probs, Table}
use Rattle.definition.specs.Refusals.{Res, done, refused, then, lookup}
use Rattle.definition.specs.Search.{kept}
use Rattle.memory.specs.Layout.{table_count}
use Rattle.memory.specs.Layout.{row_count}
use Rattle.table.specs.Rows.{TableHolds}
use Rattle.table.specs.Inserted.{seen_table}
use Rattle.closure.specs.declared.Closed.{Closed}
use Rattle.closure.specs.Closed.{answer}
use Rattle.search_state.specs.State.{stored_all, state_in, slot_table, Ready, Onward, Paid}

-- ---- answers

-- what a search answers: the slot of its table, or a refusal
abbrev pub out_answer : (pol m : List ℕ) → Result ℕ Refusal → Res Table
out_answer pol m (Ok s) = done (slot_table pol m s) (state_in pol m)
out_answer pol m (Err n) = refused (number_of n)

-- what work on a table answers: the table as it is now, or a refusal
abbrev pub table_answer : (pol m : List ℕ) → Closed → Res Table
table_answer pol m c = answer c.end (seen_table pol m c.table) (state_in pol m)

abbrev pub IsSlot : List ℕ → Result ℕ Refusal → Type 0
IsSlot m (Ok s) = s < table_count m
IsSlot m (Err n) = Unit {0}

-- ---- what a search leaves, and what work on a table leaves

pub record Searched (res : Res Table) (pol : List ℕ) (r : Result ℕ Refusal) (m₀ m : List ℕ) : Type 0 where
  pub says : res ≡ out_answer pol m r
  pub ready : Ready pol m
  pub onward : Onward m₀ m
  pub slot : IsSlot m r
  pub paid : (s : ℕ) → r ≡ Ok s → Paid 0 m₀ m

pub record Tabled (extra : ℕ) (res : Res Table) (pol : List ℕ) (r : Closed) (m₀ m : List ℕ) : Type 0 where
  pub says : res ≡ table_answer pol m r
  pub ready : Ready pol m
  pub onward : Onward m₀ m
  pub table : TableHolds m r.table
  pub paid : r.end ≡ (Ok tt) → Paid extra m₀ m

-- ---- a remembered table is asked for

pub data Recalled (pol m : List ℕ) (q : Policy) (p : Probs) : Option ℕ → Type 0 where
  found : {s : ℕ} → s < table_count m → lookup q p (stored_all pol m) ≡ Some (slot_table pol m s) → Recalled pol m q p (Some s)
  new : lookup q p (stored_all pol m) ≡ None → Recalled pol m q p None

abbrev pub is_found : Option Table → Bool
is_found (Some t) = true
is_found None = false

-- whether the table is settled that x was wrapped for: x was made, dissatisfaction is asked for, and the policy's table without it is remembered
abbrev pub settles_with : Result Candidate NotMade → Option Float → Option Table → Bool
settles_with (Ok x) (Some d) t = is_found t
settles_with (Ok x) None t = false
settles_with (Err e) dissat t = false

-- ---- a table is remembered

abbrev pub OneTable : Result ℕ Refusal → (m₀ m : List ℕ) → Type 0
OneTable (Ok s) m₀ m = table_count m ≡ suc (table_count m₀)
OneTable (Err n) m₀ m = Unit {0}

pub record Remembered (pol : List ℕ) (q : Policy) (p : Probs) (c : Closed) (r : Result ℕ Refusal) (m₀ m : List ℕ) : Type 0 where
  pub says : then (table_answer pol m₀ c) (λ t. kept q p t) ≡ out_answer pol m r
  pub ready : Ready pol m
  pub onward : Onward m₀ m
  pub slot : IsSlot m r
  pub rows : row_count m ≡ row_count m₀
  pub one : OneTable r m₀ m
