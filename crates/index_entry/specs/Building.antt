-- What the functions that build an index ask and leave, for the inner contracts: document 02, R-11.
use Rattle.std.specs.Prelude.{ℕ, suc, ◌+◌, ◌*◌, ◌-◌, ◌≤◌, ◌<◌, Bool, false, List, ◌++◌, ◌⊎◌, ◌≡◌, length, get_or, drop, Some, Result, Ok, Err}
use Rattle.refusals.specs.declared.Refusal.{Refusal}
use Rattle.refusals.specs.Numbers.{number_of}
use Rattle.types.specs.declared.«Type».{«Type»}
use Rattle.contexts.specs.declared.Context.{Context}
use Rattle.trees.specs.Fragment.{Fragment}
use Rattle.trees.specs.Typing.{type_of}
use Rattle.trees.specs.Height.{max_height, height_of}
use Rattle.trees.specs.Reading.{refused, done, max_records}
use Rattle.trees.specs.Rules.{rule_of, types_of, tallest}
use Rattle.trees.specs.TreeCheck.{Typed, context_of, check_of}
use Rattle.trees.specs.declared.Subtree.{Subtree}
use Rattle.walk.specs.TreeRecords.{fragment_at, TreeRecords}
use Rattle.walk.specs.Nodes.{node_of, AllPlaced}
use Rattle.script_entry.specs.Pieces.{place}
use Rattle.index_places.specs.Places.{kids_at, kind_at, kid, ahead, size_at, Stands}
use Rattle.index_places.specs.Typed.{type_or, subtree_of}
use Rattle.index_entry.specs.Index.{EntryOf, IsIndex, tree_in}
use Rattle.index_memory.specs.Memory.{work_words, size_in, first_in, subtree_in, entry_in}
use Rattle.index_entry.specs.Memory.{subtrees_from}

-- the words of a record's first n children, in the script's order, are there
pub record Children (work : List ℕ) (kind : ℕ) (children : List ℕ) (n : ℕ) : Type 0 where
  pub room : length work ≡ 16384
  pub few : n ≤ 16
  pub small : (j : ℕ) → j < n → place kind j < 16
  pub inside : (j : ℕ) → j < n → get_or children (place kind j) 0 < 4096

-- the type by the rules and the height, where there is one and it is not too tall
pub record Ruled (c : Context) (bytes work : List ℕ) (r : Subtree) : Type 0 where
  pub is : (t : «Type») → rule_of (node_of bytes).kind c (node_of bytes).k (types_of (subtrees_from bytes work)) ≡ done t
      → tallest (subtrees_from bytes work) < max_height → r ≡ record { ty = t; height = tallest (subtrees_from bytes work) + 1 }

-- a tree that the check passed
pub record Checked (c : Context) (tree : List ℕ) : Type 0 where
  pub root : Fragment
  pub rows : TreeRecords tree root
  pub typed : type_of c root ≡ Ok (type_or (type_of c root))
  pub low : height_of root ≤ max_height

-- ---- the pass upward

-- so many records begin where the first part says
pub record Scanned (c : Context) (tree work : List ℕ) (count : ℕ) : Type 0 where
  pub checked : Checked c tree
  pub counts : count ≡ checked.rows.count
  pub room : length work ≡ 16384
  pub placed : AllPlaced tree work (count - 1)

-- the sizes, type and height of record j
pub record Known (c : Context) (tree work : List ℕ) (j : ℕ) : Type 0 where
  pub sizes : (v : Bool) → size_in work v j ≡ size_at c tree v j
  pub subtree : subtree_in work j ≡ subtree_of c (fragment_at tree j)

-- those of the first i records, over what stood there
pub record Filling (c : Context) (tree before work : List ℕ) (i : ℕ) : Type 0 where
  pub room : length work ≡ length before
  pub starts : (a : ℕ) → a < 4096 → get_or work a 0 ≡ get_or before a 0
  pub each : (j : ℕ) → j < i → Known c tree work j

-- record i follows those that are known
pub record Fill (c : Context) (tree work : List ℕ) (i : ℕ) : Type 0 where
  pub count : ℕ
  pub scanned : Scanned c tree work count
  pub inside : i < count
  pub each : (j : ℕ) → j < i → Known c tree work j

-- ---- the pass downward

-- record i is where the first part says, its children's sizes are there, and its place is no large number
pub record Gives (tree work : List ℕ) (i : ℕ) : Type 0 where
  pub root : Fragment
  pub rows : TreeRecords tree root
  pub inside : i < rows.count
  pub room : length work ≡ 16384
  pub placed : AllPlaced tree work i
  pub small : first_in work i < 4294967296

abbrev pub first_under : (tree work : List ℕ) (i j : ℕ) → ℕ
first_under tree work i j = first_in work i + ahead (kind_at tree i) false (λ w m. size_in work w (get_or (kids_at tree i) m 0)) j

-- the children of record i have their places, and nothing else changed
pub record Gave (tree before after : List ℕ) (i : ℕ) : Type 0 where
  pub room : length after ≡ length before
  pub kids : (j : ℕ) → j < length (kids_at tree i) → first_in after (kid tree i j) ≡ first_under tree before i j
  pub others : (a : ℕ) → ((j : ℕ) → j < length (kids_at tree i) → a ≡ 8192 + kid tree i j → ⊥) → get_or after a 0 ≡ get_or before a 0

-- so many records with their sizes
pub record Sized (tree work : List ℕ) (count : ℕ) : Type 0 where
  pub c : Context
  pub scanned : Scanned c tree work count
  pub each : (j : ℕ) → j < count → Known c tree work j

-- and the root's place
pub record Rooted (tree work : List ℕ) (count : ℕ) : Type 0 where
  pub sized : Sized tree work count
  pub first : first_in work (count - 1) ≡ 0

-- the root, and the children of record i and of those after it, have their places
pub record Giving (tree before work : List ℕ) (count i : ℕ) : Type 0 where
  pub room : length work ≡ length before
  pub others : (a : ℕ) → (a < 8192) ⊎ (12288 ≤ a) → get_or work a 0 ≡ get_or before a 0
  pub each : (c : Context) → ((j : ℕ) → j < count → Known c tree before j) → (k : ℕ) → k < count
      → (suc k ≡ count) ⊎ ((p j : ℕ) × (i ≤ p) × (p < count) × (j < length (kids_at tree p)) × (k ≡ kid tree p j))
      → Stands c tree count k (first_in work k)

-- the entry of every record
pub record Built (c : Context) (tree work : List ℕ) (count : ℕ) : Type 0 where
  pub counts : (f : Fragment) (rows : TreeRecords tree f) → count ≡ rows.count
  pub few : count ≤ 4096
  pub room : length work ≡ 16384
  pub each : (i : ℕ) → i < count → EntryOf c tree count i (entry_in work i)

-- ---- the entry's answers

-- a tree that the check passes, or the refusal
pub data Passing (context : ℕ) (tree work : List ℕ) : Result Context Refusal → Type 0 where
  checks : {c : Context} {x : Typed} → context_of context ≡ Some c → length work ≡ work_words → check_of context tree max_records ≡ done x
      → tree_in context tree work ≡ done x → Passing context tree work (Ok c)
  fails : {r : Refusal} → tree_in context tree work ≡ refused (number_of r) → Passing context tree work (Err r)

-- the bytes written, 0 on a refusal
abbrev pub bytes_in : Result ℕ Refusal → ℕ
bytes_in (Ok n) = n
bytes_in (Err r) = 0

-- a tree that the check passed has its index in the output, where it fits
pub data Outcome (c : Context) (tree out left : List ℕ) : Result ℕ Refusal → Type 0 where
  fits : {count n : ℕ} {index : List ℕ} → ((f : Fragment) (rows : TreeRecords tree f) → count ≡ rows.count) → IsIndex c tree count index
      → length index ≤ length out → left ≡ index ++ drop (length index) out → n ≡ length index → Outcome c tree out left (Ok n)
  too_small : {count : ℕ} → ((f : Fragment) (rows : TreeRecords tree f) → count ≡ rows.count) → length out < 16 * count
      → left ≡ out → Outcome c tree out left (Err Refusal.OutputTooSmall)

-- and one that it refused its refusal
pub data Answered (context : ℕ) (tree out work left : List ℕ) : Result ℕ Refusal → Type 0 where
  passes : {c : Context} {x : Typed} {r : Result ℕ Refusal} → context_of context ≡ Some c → check_of context tree max_records ≡ done x
      → tree_in context tree work ≡ done x → Outcome c tree out left r → Answered context tree out work left r
  refuses : {r : Refusal} → tree_in context tree work ≡ refused (number_of r) → left ≡ out → Answered context tree out work left (Err r)
