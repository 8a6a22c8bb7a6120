-- The numbered trees of the records of a tree one by one, and two records side by side: document 01, "Records". For the inner contracts;
-- proofs/Numbering.antt shows that the last is the tree of specs/Numbered.antt.
use Rattle.std.specs.Prelude.{ℕ, zero, suc, ◌+◌, ◌≤◌, ◌<◌, Bool, true, ◌&&◌, cond, List, [], ◌∷◌, eqb, ltb, get_or}
use Rattle.records.specs.declared.Parts.{Parts}
use Rattle.records.specs.Payloads.{count_in, first_keys}
use Rattle.records.specs.RecordForm.{kind_of, fragment_payload}
use Rattle.records.specs.Answers.{parts_of}
use Rattle.trees.specs.Reading.{max_records}
use Rattle.walk.specs.TreeRecords.{record_at}
use Rattle.walk.specs.Nodes.{AllPlaced}
use Rattle.differ.specs.Numbered.{Numbered, NumberedList, node, end, ◌▹◌, nobody, and_next}
use Rattle.differ.specs.Differences.{same_keys}

-- the first n records, record i, and the records with some numbers
unfoldable pub numbered_of : List ℕ → (n : ℕ) → List Numbered
numbered_of tree zero = []
numbered_of tree (suc n) = and_next (numbered_of tree n) (record_at tree n)

unfoldable pub numbered_at : List ℕ → (i : ℕ) → Numbered
numbered_at tree i = get_or (numbered_of tree (suc i)) i nobody

unfoldable pub list_at : List ℕ → List ℕ → NumberedList
list_at tree [] = end
list_at tree (j ∷ js) = numbered_at tree j ▹ list_at tree js

-- how many records a numbered tree has
unfoldable mutual
  pub size_of : Numbered → ℕ
  size_of (node i h xs) = suc (sizes_of xs)

  pub sizes_of : NumberedList → ℕ
  sizes_of end = 0
  sizes_of (x ▹ xs) = size_of x + sizes_of xs

-- two records by their bytes: kind, number, k, how many children or keys, and the keys
abbrev pub same_parts : (kind : ℕ) → Parts → Parts → Bool → Bool
same_parts kind x y keys = eqb x.number y.number && (eqb x.k y.k && (eqb x.count y.count && cond (ltb kind 57) true keys))

abbrev pub same_record : List ℕ → List ℕ → Bool
same_record x y =
    eqb (kind_of x) (kind_of y)
    && same_parts (kind_of x) (parts_of (fragment_payload x)) (parts_of (fragment_payload y)) (same_keys (first_keys x (count_in x)) (first_keys y (count_in x)))

-- Records i and j are placed with all before them, and the differences below them have room among as many as there may be records.
pub record Walks (left right left_starts right_starts : List ℕ) (i j at : ℕ) : Type 0 where
  pub placed_left : AllPlaced left left_starts i
  pub placed_right : AllPlaced right right_starts j
  pub small_left : i < max_records
  pub small_right : j < max_records
  pub room : at + size_of (numbered_at left i) ≤ max_records
