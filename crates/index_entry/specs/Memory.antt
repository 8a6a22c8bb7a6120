-- What work memory is to hold of each record, from its bytes and its children's words.
use Rattle.std.specs.Prelude.{ℕ, ◌+◌, ◌*◌, ◌<◌, Bool, true, false, cond, List, map, ◌≡◌, eqb, length, get_or, set, take, Some}
use Rattle.records.specs.Payloads.{Payload, children_of}
use Rattle.records.specs.RecordForm.{fragment_payload}
use Rattle.contexts.specs.declared.Context.{Context}
use Rattle.trees.specs.declared.Subtree.{Subtree}
use Rattle.walk.specs.TreeRecords.{fragment_at}
use Rattle.walk.specs.Nodes.{node_of}
use Rattle.script_leaves.specs.Leaves.{leaf_of}
use Rattle.script_entry.specs.Pieces.{last}
use Rattle.index_memory.specs.Memory.{size_in, subtree_in, tree_word}
use Rattle.index_places.specs.Sizes.{size_of}
use Rattle.index_places.specs.Places.{ahead, size_at}
use Rattle.index_places.specs.Typed.{subtree_of}

-- ---- a record from its bytes, where work memory has those before it

-- a record of the form, whose children's words are there
pub record Readable (bytes work : List ℕ) : Type 0 where
  pub payload : Payload
  pub fits : fragment_payload bytes ≡ Some payload
  pub inside : (j : ℕ) → j < length (children_of payload) → get_or (children_of payload) j 0 < 4096
  pub room : length work ≡ 16384

-- its size, as a leaf or from its children's
unfoldable pub size_from : Context → (bytes work : List ℕ) (verified : Bool) → ℕ
size_from c bytes work v =
    cond (eqb (node_of bytes).n 0) (size_of c v (leaf_of bytes))
    (ahead (node_of bytes).kind v (λ w m. size_in work w (get_or (node_of bytes).children m 0)) (node_of bytes).n
    + length (last (node_of bytes).kind (node_of bytes).k v))

-- the types and heights of its children
abbrev pub subtrees_from : (bytes work : List ℕ) → List Subtree
subtrees_from bytes work = map (subtree_in work) (take (node_of bytes).n (node_of bytes).children)

-- ---- all records, children first

abbrev pub size_word : Context → (tree : List ℕ) → ℕ → ℕ
size_word c tree i = size_at c tree false i + size_at c tree true i * 4294967296

-- work memory with the size and the type of record i
unfoldable pub fill_one : Context → (tree work : List ℕ) → ℕ → List ℕ
fill_one c tree work i = set (set work (4096 + i) (size_word c tree i)) (12288 + i) (tree_word (subtree_of c (fragment_at tree i)))
