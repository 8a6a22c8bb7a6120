-- The extremes of a tree's records, each from those of its children, which come before it: document 01, "Records".
use Rattle.std.specs.Prelude.{ℕ, ◌+◌, ◌*◌, ◌<◌, List, map, ◌≡◌, length, get_or, Option, None, Some, Result, Ok, Err}
use Rattle.refusals.specs.declared.Refusal.{Refusal}
use Rattle.refusals.specs.Numbers.{number_of}
use Rattle.records.specs.Payloads.{Payload, k_of, count_of, children_of}
use Rattle.records.specs.RecordForm.{kind_of, fragment_payload}
use Rattle.contexts.specs.declared.Context.{Context}
use Rattle.trees.specs.Fragment.{Fragment}
use Rattle.trees.specs.Reading.{refused, done}
use Rattle.trees.specs.TreeCheck.{Typed, context_of}
use Rattle.walk.specs.TreeRecords.{fragment_at, TreeRecords}
use Rattle.witness_ways.specs.declared.Both.{Both}
use Rattle.witness_ways.specs.Extremes.{Extremes, sat, extremes, found_in, smallest_in, largest_in}
use Rattle.witness_rules.specs.Bounds.{neither}
use Rattle.witness_rules.specs.ByKind.{ways_of}
use Rattle.witness_entry.specs.Memory.{both_in}
use Rattle.witness_entry.specs.Witness.{tree_in}

-- what a record's bytes come to, where work memory has the extremes of the records before it
abbrev pub ways_with : Context → (kind : ℕ) → Option Payload → (work : List ℕ) → Both
ways_with c kind (Some p) work = ways_of c kind (k_of p) (count_of p) (map (both_in work) (children_of p))
ways_with c kind None work = neither

abbrev pub ways_in : Context → (bytes work : List ℕ) → Both
ways_in c bytes work = ways_with c (kind_of bytes) (fragment_payload bytes) work

-- a record of the form, whose children stand in work memory
pub record Stands (bytes work : List ℕ) : Type 0 where
  pub payload : Payload
  pub fits : fragment_payload bytes ≡ Some payload
  pub inside : (j : ℕ) → j < length (children_of payload) → 2 * get_or (children_of payload) j 0 + 1 < length work

-- So many records are counted, and each has the extremes of its fragment in work memory.
pub record Filled (c : Context) (tree work : List ℕ) (count : ℕ) : Type 0 where
  pub counts : (f : Fragment) (rows : TreeRecords tree f) → count ≡ rows.count
  pub each : (i : ℕ) → i < count → both_in work i ≡ extremes c (fragment_at tree i)

-- ---- the entry's answers

-- a tree that the check passed has its own extremes, one that it refused its number
pub data Answered (context : ℕ) (tree work : List ℕ) : Result Extremes Refusal → Type 0 where
  passes : {c : Context} {x : Typed} {e : Extremes} → context_of context ≡ Some c → tree_in context tree work ≡ done x → e ≡ sat (extremes c x.tree)
      → Answered context tree work (Ok e)
  fails : {r : Refusal} → tree_in context tree work ≡ refused (number_of r) → Answered context tree work (Err r)

-- the three results, zeros on a refusal
abbrev pub found_by : Result Extremes Refusal → ℕ
found_by (Ok e) = found_in e
found_by (Err r) = 0

abbrev pub smallest_by : Result Extremes Refusal → ℕ
smallest_by (Ok e) = smallest_in e
smallest_by (Err r) = 0

abbrev pub largest_by : Result Extremes Refusal → ℕ
largest_by (Ok e) = largest_in e
largest_by (Err r) = 0
