-- What the theorems about the entry's script start from.
use Rattle.std.specs.Prelude.{ℕ, List, ◌≡◌, length, Some}
use Rattle.contexts.specs.declared.Context.{Context}
use Rattle.trees.specs.Reading.{done}
use Rattle.trees.specs.TreeCheck.{Typed, context_of, check_of}
use Rattle.writing.specs.WellFormed.{AllBelow}
use Rattle.script_machine.specs.Numbers.{Bytes}
use Rattle.script_bytes.specs.Tables.{Tables}
use Rattle.script_bytes.specs.ScriptOf.{script_of}

-- In a context the check passes a tree of bytes, whatever the output and the work memory, and its script is written.
pub record Written (c : Context) (t : Tables) (x : Typed) (script : Bytes) : Type 0 where
  pub context : ℕ
  pub tree : Bytes
  pub out : Bytes
  pub work : List ℕ
  pub in-context : context_of context ≡ Some c
  pub of-bytes : AllBelow 256 tree
  pub passes : check_of context tree (length work) ≡ done x
  pub writes : script_of context tree t out work ≡ done script
