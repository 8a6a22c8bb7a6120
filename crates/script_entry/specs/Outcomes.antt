-- What the runs that lay a script ask and leave: document 02, R-1.
use Rattle.std.specs.Prelude.{ℕ, ◌≤◌, true, List, ◌≡◌, Result, Ok, Err}
use Rattle.refusals.specs.declared.Refusal.{Refusal}
use Rattle.contexts.specs.declared.Context.{Context}
use Rattle.trees.specs.Reading.{Answer}
use Rattle.walk.specs.TreeRecords.{record_at}
use Rattle.walk.specs.Nodes.{Placed}
use Rattle.script_machine.specs.Numbers.{Bytes}
use Rattle.script_bytes.specs.Tables.{Tables}
use Rattle.script_bytes.specs.ScriptOf.{has_entries, number_of, output_after, bytes_written}
use Rattle.script_leaves.specs.Leaves.{leaf_of}
use Rattle.claspwillow.specs.Results.{number_in}

-- All records up to number i are placed, and their own numbers have whole table entries.
pub record Ready (c : Context) (t : Tables) (tree starts : List ℕ) (i : ℕ) : Type 0 where
  pub placed : (j : ℕ) → j ≤ i → Placed tree starts j
  pub entries : (j : ℕ) → j ≤ i → has_entries c t (leaf_of (record_at tree j)) ≡ true

abbrev pub bytes_in : Result ℕ Refusal → ℕ
bytes_in (Ok n) = n
bytes_in (Err r) = 0

-- The bytes of a script or a refusal, and an output, are those of an answer.
pub record Gives (answer : Answer Bytes) (out left : Bytes) (r : Result ℕ Refusal) : Type 0 where
  pub number : number_in r ≡ number_of answer
  pub writes : left ≡ output_after answer out
  pub counts : bytes_in r ≡ bytes_written answer
