-- Fragment trees with their record numbers: document 01, "Records" (the first record is number 0, children are smaller numbers, the last
-- record is the root).
use Rattle.std.specs.Prelude.{ℕ, zero, suc, ◌-◌, List, [], ◌∷◌, ◌++◌, ◌≡◌, length, get_or, take, drop, Option, None, Some}
use Rattle.records.specs.Numbers.{or_zero}
use Rattle.records.specs.Payloads.{Payload, children_of}
use Rattle.records.specs.RecordForm.{record_length, fragment_payload}
use Rattle.trees.specs.Fragment.{Fragment}
use Rattle.trees.specs.Reading.{max_records}
use Rattle.walk.specs.Heads.{Head, plain, head_of, children_in, head_in}

infixr 50 ◌▹◌
mutual
  -- A record's number, what stands in it (kind, number, k and keys: its fragment's head) and its children.
  pub data Numbered : Type 0 where
    node : (record-number : ℕ) → Head → NumberedList → Numbered

  pub data NumberedList : Type 0 where
    end : NumberedList
    ◌▹◌ : Numbered → NumberedList → NumberedList

-- ---- the tree that some bytes write

-- stands where there is no record
abbrev pub nobody : Numbered
nobody = node 0 (plain 0) end

abbrev pub children_if : Option Payload → List ℕ
children_if (Some p) = children_of p
children_if None = []

-- the records with some numbers, of those read so far
unfoldable pub those : List Numbered → List ℕ → NumberedList
those read [] = end
those read (j ∷ js) = get_or read j nobody ▹ those read js

-- one record more than those read so far
abbrev pub and_next : List Numbered → (bytes : List ℕ) → List Numbered
and_next read bytes = read ++ (node (length read) (head_in bytes) (those read (children_if (fragment_payload bytes))) ∷ [])

-- the records that some bytes hold, of which so many may still begin
unfoldable pub numbered_from : ℕ → List Numbered → List ℕ → List Numbered
numbered_from zero read bytes = read
numbered_from (suc more) read [] = read
numbered_from (suc more) read (b ∷ bs) =
    let len = or_zero (record_length (b ∷ bs)) in
    numbered_from more (and_next read (take len (b ∷ bs))) (drop len (b ∷ bs))

abbrev pub last_of : List Numbered → Numbered
last_of read = get_or read (length read - 1) nobody

unfoldable pub numbered : (bytes : List ℕ) → Numbered
numbered bytes = last_of (numbered_from max_records [] bytes)

-- ---- the same without its numbers

-- a numbered tree is this one, with numbers
unfoldable mutual
  pub Numbers : Numbered → Fragment → Type 0
  Numbers (node i h xs) f = (h ≡ head_of f) × NumbersAll xs (children_in f)

  pub NumbersAll : NumberedList → List Fragment → Type 0
  NumbersAll end [] = Unit
  NumbersAll end (f ∷ fs) = ⊥
  NumbersAll (x ▹ xs) [] = ⊥
  NumbersAll (x ▹ xs) (f ∷ fs) = Numbers x f × NumbersAll xs fs
