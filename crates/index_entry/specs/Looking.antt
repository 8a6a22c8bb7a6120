-- What the functions that look a byte up leave, for the inner contracts: document 02, R-11.
use Rattle.std.specs.Prelude.{ℕ, List, ◌≡◌, Option, None, Some, Result, Ok, Err}
use Rattle.refusals.specs.declared.Refusal.{Refusal}
use Rattle.refusals.specs.Numbers.{number_of}
use Rattle.contexts.specs.declared.Context.{Context}
use Rattle.trees.specs.Fragment.{Fragment}
use Rattle.trees.specs.Reading.{refused, done, max_records}
use Rattle.trees.specs.TreeCheck.{Typed, context_of, check_of}
use Rattle.walk.specs.TreeRecords.{TreeRecords}
use Rattle.index_entry.specs.Index.{IsIndex, Looked, tree_in}

-- whether a record was found, and which, zeros where none was
abbrev pub found_of : Option ℕ → ℕ
found_of (Some i) = 1
found_of None = 0

abbrev pub it_of : Option ℕ → ℕ
it_of (Some i) = i
it_of None = 0

abbrev pub found_in : Result (Option ℕ) Refusal → ℕ
found_in (Ok o) = found_of o
found_in (Err r) = 0

abbrev pub it_in : Result (Option ℕ) Refusal → ℕ
it_in (Ok o) = it_of o
it_in (Err r) = 0

-- a tree that the check passed: its index is looked up, another is refused
pub data FindOutcome (c : Context) (tree index : List ℕ) (at : ℕ) : Result (Option ℕ) Refusal → Type 0 where
  looks : {count : ℕ} {o : Option ℕ} → ((f : Fragment) (rows : TreeRecords tree f) → count ≡ rows.count) → IsIndex c tree count index
      → Looked c tree count at (found_of o) (it_of o) → FindOutcome c tree index at (Ok o)
  another : {count : ℕ} → ((f : Fragment) (rows : TreeRecords tree f) → count ≡ rows.count) → (IsIndex c tree count index → ⊥)
      → FindOutcome c tree index at (Err Refusal.NotItsIndex)

-- and one that it refused has its refusal
pub data FindAnswered (context : ℕ) (tree index : List ℕ) (at : ℕ) (work : List ℕ) : Result (Option ℕ) Refusal → Type 0 where
  passes : {c : Context} {x : Typed} {r : Result (Option ℕ) Refusal} → context_of context ≡ Some c → check_of context tree max_records ≡ done x
      → tree_in context tree work ≡ done x → FindOutcome c tree index at r → FindAnswered context tree index at work r
  refuses : {r : Refusal} → tree_in context tree work ≡ refused (number_of r) → FindAnswered context tree index at work (Err r)
