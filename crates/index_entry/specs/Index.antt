-- What the entries give: document 02, R-11. A context or work memory that is none of its own, then the tree, are refused as the tree check does. The index
-- of a tree has an entry of 16 bytes for each record, record 0 first: the packed type, the height, the first byte and the length in the script, a u32
-- each. Too little room for it is 13. An index that is not the tree's is 20; else a byte is looked up.
use Rattle.std.specs.Prelude.{ℕ, ◌-◌, ◌*◌, ◌≤◌, ◌<◌, cond, List, ◌++◌, ◌≡◌, eqb, length, drop, Option, None, Some, Ok}
use Rattle.words.specs.Memory.{zeroed}
use Rattle.types.specs.declared.«Type».{«Type»}
use Rattle.types.specs.TypeOrder.{pack}
use Rattle.contexts.specs.declared.Context.{Context}
use Rattle.trees.specs.Typing.{type_of}
use Rattle.trees.specs.Height.{height_of}
use Rattle.trees.specs.Reading.{Answer, refused, done, ◌>>=◌, or_refuse, max_records}
use Rattle.trees.specs.TreeCheck.{Typed, bad_context, bad_work, context_of, check_of}
use Rattle.walk.specs.TreeRecords.{fragment_at, TreeRecords}
use Rattle.index_memory.specs.Entries.{Entry, entries_bytes}
use Rattle.index_memory.specs.Memory.{work_words}
use Rattle.index_places.specs.Places.{span_at, Stands, Holds, Beneath}

-- the numbers of the refusals that come after the tree check's
abbrev pub output_too_small : ℕ
output_too_small = 13

abbrev pub not_its_index : ℕ
not_its_index = 20

-- work memory has its one length, four words for each record that a tree may have
abbrev pub work_of : ℕ → Option ℕ
work_of words = cond (eqb words work_words) (Some words) None

-- the tree that an entry reads, or the number of its refusal
unfoldable pub tree_in : (context : ℕ) → (tree work : List ℕ) → Answer Typed
tree_in context tree work = do
  _ ← or_refuse bad_context (context_of context)
  _ ← or_refuse bad_work (work_of (length work))
  check_of context tree max_records

-- ---- the index: its entries in bytes are those of crate index_memory, specs/Entries.antt

-- what stands in the entry of record i
pub record EntryOf (c : Context) (tree : List ℕ) (count i : ℕ) (e : Entry) : Type 0 where
  pub ty : «Type»
  pub typed : type_of c (fragment_at tree i) ≡ Ok ty
  pub packed : e.type ≡ pack ty
  pub high : e.height ≡ height_of (fragment_at tree i)
  pub stands : Stands c tree count i e.first
  pub long : e.size ≡ span_at c tree i

-- the index of a tree of so many records
pub record IsIndex (c : Context) (tree : List ℕ) (count : ℕ) (bytes : List ℕ) : Type 0 where
  pub entry : ℕ → Entry
  pub each : (i : ℕ) → i < count → EntryOf c tree count i (entry i)
  pub are : bytes ≡ entries_bytes entry count

-- ---- the entry that builds it

-- A refusal has its number, no bytes, and the output as it was; an index that fits has number 0, stands in the output's first bytes, and is counted.
pub data Indexed (context : ℕ) (tree out : List ℕ) : Answer Typed → (number : ℕ) (left : List ℕ) (bytes : ℕ) → Type 0 where
  refuses : (n : ℕ) → Indexed context tree out (refused n) n out 0
  fits : {c : Context} {x : Typed} {index : List ℕ} → context_of context ≡ Some c → (rows : TreeRecords tree x.tree)
      → IsIndex c tree rows.count index → length index ≤ length out → Indexed context tree out (done x) 0 (index ++ drop (length index) out) (length index)
  too_small : {x : Typed} → (rows : TreeRecords tree x.tree) → length out < 16 * rows.count → Indexed context tree out (done x) output_too_small out 0

pub record IndexPromise (context : ℕ) (tree out work : List ℕ) (number : ℕ) (left : List ℕ) (bytes : ℕ) (after : List ℕ) : Type 0 where
  pub gives : Indexed context tree out (tree_in context tree work) number left bytes
  pub clears : after ≡ zeroed work

-- ---- the entry that looks a byte up

-- The innermost fragment that holds the byte is told by its record: each record whose fragment holds the byte is this one or stands above it. Past the
-- end there is none.
pub data Looked (c : Context) (tree : List ℕ) (count at : ℕ) : (found it : ℕ) → Type 0 where
  inside : {i : ℕ} → Holds c tree count i at → ((k : ℕ) → Holds c tree count k at → Beneath tree count i k) → Looked c tree count at 1 i
  past : span_at c tree (count - 1) ≤ at → Looked c tree count at 0 0

pub data Found (context : ℕ) (tree index : List ℕ) (at : ℕ) : Answer Typed → (number found it : ℕ) → Type 0 where
  turned_down : (n : ℕ) → Found context tree index at (refused n) n 0 0
  looks : {c : Context} {x : Typed} {found it : ℕ} → context_of context ≡ Some c → (rows : TreeRecords tree x.tree) → IsIndex c tree rows.count index
      → Looked c tree rows.count at found it → Found context tree index at (done x) 0 found it
  another : {c : Context} {x : Typed} → context_of context ≡ Some c → (rows : TreeRecords tree x.tree) → (IsIndex c tree rows.count index → ⊥)
      → Found context tree index at (done x) not_its_index 0 0

pub record FindPromise (context : ℕ) (tree index : List ℕ) (at : ℕ) (work : List ℕ) (number found it : ℕ) (after : List ℕ) : Type 0 where
  pub gives : Found context tree index at (tree_in context tree work) number found it
  pub clears : after ≡ zeroed work

-- ---- any two outcomes that a promise allows are equal

abbrev pub IndexDetermined : Type 0
IndexDetermined =
    (context : ℕ) (tree out work : List ℕ) (number number' : ℕ) (left left' : List ℕ) (bytes bytes' : ℕ) (after after' : List ℕ)
    → IndexPromise context tree out work number left bytes after → IndexPromise context tree out work number' left' bytes' after'
    → (number ≡ number') × (left ≡ left') × (bytes ≡ bytes') × (after ≡ after')

abbrev pub FindDetermined : Type 0
FindDetermined =
    (context : ℕ) (tree index : List ℕ) (at : ℕ) (work : List ℕ) (number number' found found' it it' : ℕ) (after after' : List ℕ)
    → FindPromise context tree index at work number found it after → FindPromise context tree index at work number' found' it' after'
    → (number ≡ number') × (found ≡ found') × (it ≡ it') × (after ≡ after')
