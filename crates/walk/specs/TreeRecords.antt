-- The records of a tree, one by one: document 01, "Records" (each has a number, from 0 on, and children are smaller numbers).
-- proofs/Laws.antt shows that a tree that the check passed is made up of them.
use Rattle.std.specs.Prelude.{ℕ, zero, suc, ◌+◌, ◌-◌, ◌≤◌, ◌<◌, List, [], ◌∷◌, ◌++◌, map, ◌≡◌, length, get_or, take, drop, Option, None, Some}
use Rattle.records.specs.Numbers.{or_zero}
use Rattle.records.specs.Payloads.{Payload, children_of}
use Rattle.records.specs.RecordForm.{record_length, kind_of, fragment_payload}
use Rattle.records.specs.declared.Parts.{Parts}
use Rattle.records.specs.Answers.{parts_of}
use Rattle.trees.specs.Fragment.{Fragment, Fragments, False}
use Rattle.trees.specs.Reading.{done, max_records}
use Rattle.trees.specs.Tree.{fragments, fragment_of, tree_of}

-- the length of the record that begins at a byte, 0 if none does
abbrev pub length_from : List ℕ → (at : ℕ) → ℕ
length_from tree at = or_zero (record_length (drop at tree))

-- where record i begins, its bytes, and where each of the first n records begins
unfoldable pub start_of : List ℕ → ℕ → ℕ
start_of tree zero = 0
start_of tree (suc i) = start_of tree i + length_from tree (start_of tree i)

unfoldable pub record_at : List ℕ → ℕ → List ℕ
record_at tree i = take (length_from tree (start_of tree i)) (drop (start_of tree i) tree)

unfoldable pub starts_of : List ℕ → ℕ → List ℕ
starts_of tree zero = []
starts_of tree (suc n) = starts_of tree n ++ (start_of tree n ∷ [])

-- what a record makes of the fragments of the records before it; False stands where it makes nothing
abbrev pub or_false : Option Fragment → Fragment
or_false (Some f) = f
or_false None = False

abbrev pub made_of : List Fragment → (kind : ℕ) → Option Payload → Fragment
made_of before kind (Some p) = or_false (fragment_of kind p (map (λ j. get_or before j False) (children_of p)))
made_of before kind None = False

-- the fragments of the first n records, and that of record i
unfoldable pub fragments_of : List ℕ → ℕ → List Fragment
fragments_of tree zero = []
fragments_of tree (suc n) =
    fragments_of tree n ++ (made_of (fragments_of tree n) (kind_of (record_at tree n)) (fragment_payload (record_at tree n)) ∷ [])

unfoldable pub fragment_at : List ℕ → ℕ → Fragment
fragment_at tree i = get_or (fragments_of tree (suc i)) i False

-- the fragments of the children with the places j to n - 1 in a row of record numbers
unfoldable pub children_from : (tree children : List ℕ) → (j n : ℕ) → Fragments
children_from tree children j n = fragments (map (fragment_at tree) (drop j (take n children)))

-- Record i is whole and of its kind's form, and makes its fragment of those of its children, which come before it.
pub record TreeRecord (tree : List ℕ) (i : ℕ) : Type 0 where
  pub len : ℕ
  pub payload : Payload
  pub whole : record_length (drop (start_of tree i) tree) ≡ Some len
  pub fits : fragment_payload (record_at tree i) ≡ Some payload
  pub before : (j : ℕ) → j < length (children_of payload) → get_or (children_of payload) j 0 < i
  pub makes : fragment_of (kind_of (record_at tree i)) payload (map (fragment_at tree) (children_of payload)) ≡ Some (fragment_at tree i)

-- The bytes write the tree and are so many records, one after the other, of which the last makes it.
pub record TreeRecords (tree : List ℕ) (f : Fragment) : Type 0 where
  pub writes : tree_of tree ≡ done f
  pub count : ℕ
  pub any : 0 < count
  pub few : count ≤ max_records
  pub ends : start_of tree count ≡ length tree
  pub row : (i : ℕ) → i < count → TreeRecord tree i
  pub root : fragment_at tree (count - 1) ≡ f

-- some tree that bytes write
pub record Written (tree : List ℕ) : Type 0 where
  pub root : Fragment
  pub rows : TreeRecords tree root

-- What readers of record i have told: its bytes, its kind and its parts.
pub record Told (tree : List ℕ) (i : ℕ) (bytes : List ℕ) (kind : ℕ) (parts : Parts) : Type 0 where
  pub row : TreeRecord tree i
  pub bytes-are : bytes ≡ record_at tree i
  pub kind-is : kind ≡ kind_of bytes
  pub parts_are : parts ≡ parts_of (Some row.payload)
