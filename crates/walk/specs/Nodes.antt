-- A record as one who walks a tree reads it, and the starts of records in work memory: document 01, "Records".
use Rattle.std.specs.Prelude.{ℕ, ◌≤◌, ◌<◌, List, ◌++◌, ◌≡◌, length, get_or, drop}
use Rattle.records.specs.declared.Parts.{Parts}
use Rattle.records.specs.Shapes.{arity}
use Rattle.records.specs.RecordForm.{kind_of, fragment_payload}
use Rattle.records.specs.Answers.{parts_of}
use Rattle.trees.specs.Fragment.{Fragment}
use Rattle.walk.specs.declared.Node.{Node}
use Rattle.walk.specs.TreeRecords.{start_of, starts_of, TreeRecord, TreeRecords}

abbrev pub node_with : (kind : ℕ) → Parts → Node
node_with kind parts = record { kind = kind; k = parts.k; n = arity kind parts.count; children = parts.children }

-- the node of a record's bytes
abbrev pub node_of : List ℕ → Node
node_of bytes = node_with (kind_of bytes) (parts_of (fragment_payload bytes))

-- Record i is whole, and its start stands at its number.
pub record Placed (tree starts : List ℕ) (i : ℕ) : Type 0 where
  pub row : TreeRecord tree i
  pub long : i < length starts
  pub start : get_or starts i 0 ≡ start_of tree i

-- So are all records up to number i.
pub record AllPlaced (tree starts : List ℕ) (i : ℕ) : Type 0 where
  pub placed : (j : ℕ) → j ≤ i → Placed tree starts j

-- The scan of a tree gives how many records it has, and stores where each begins at its number; what stands past them stays.
pub record Scanned (tree before after : List ℕ) (count : ℕ) : Type 0 where
  pub counts : (f : Fragment) (rows : TreeRecords tree f) → count ≡ rows.count
  pub stores : after ≡ starts_of tree count ++ drop count before
