-- When a byte string writes a tree: document 01, "Records" (children are smaller record numbers, each taken once, the last record is the
-- root) and the tree check's order in "Numbers the console shows". What a record is made into is a parameter: Tree.antt makes fragments of
-- records, TreeCheck.antt fragments with their types, Rules.antt types and heights alone.
use Rattle.std.specs.Prelude.{ℕ, zero, suc, List, [], ◌∷◌, ◌++◌, get_or, set, take, drop, Option, None, Some}
use Rattle.records.specs.Payloads.{Payload, children_of}
use Rattle.records.specs.RecordForm.{record_length, kind_of, fragment_payload}

-- document 01's numbers of the refusals that a tree can meet
abbrev pub bad_tree : ℕ
bad_tree = 14

abbrev pub ill_typed : ℕ
ill_typed = 15

abbrev pub tree_too_large : ℕ
tree_too_large = 16

-- document 02's, R-8
abbrev pub tree_too_tall : ℕ
tree_too_tall = 19

-- the records that a tree may have
abbrev pub max_records : ℕ
max_records = 4096

-- a result, or the number of a refusal
pub data Answer (A : Type 0) : Type 0 where
  refused : ℕ → Answer A
  done : A → Answer A

infixl 20 ◌>>=◌
abbrev pub ◌>>=◌ : {A B : Type 0} → Answer A → (A → Answer B) → Answer B
refused n >>= next = refused n
done a >>= next = next a

abbrev pub map_answer : {A B : Type 0} → (A → B) → Answer A → Answer B
map_answer f (refused n) = refused n
map_answer f (done a) = done (f a)

abbrev pub or_refuse : {A : Type 0} → ℕ → Option A → Answer A
or_refuse n (Some a) = done a
or_refuse n None = refused n

-- One slot for each record read so far, in order: what the record was made into, or nothing once a later record has taken it as a child.
abbrev pub Slots : Type 0 → Type 0
Slots A = List (Option A)

-- what some children are, and the slots without them
pub record Taken (A : Type 0) : Type 0 where
  pub those : List A
  pub left : Slots A

abbrev pub and_first : {A : Type 0} → Option A → Option (Taken A) → Option (Taken A)
and_first (Some x) (Some t) = Some (record { those = x ∷ t.those; left = t.left })
and_first (Some x) None = None
and_first None t = None

-- Children are taken from left to right, each where its slot holds something: a child that is not there, or is taken already, is none.
unfoldable pub take_all : {A : Type 0} → List ℕ → Slots A → Option (Taken A)
take_all [] slots = Some (record { those = []; left = slots })
take_all (j ∷ js) slots = and_first (get_or slots j None) (take_all js (set slots j None))

-- the root: the last slot, every other being taken
unfoldable pub root_of : {A : Type 0} → Slots A → Option A
root_of [] = None
root_of (x ∷ []) = x
root_of (None ∷ x ∷ slots) = root_of (x ∷ slots)
root_of (Some y ∷ x ∷ slots) = None

module _ {A : Type 0} (make : ℕ → Payload → List A → Answer A) where
  -- the slots once a record has been made of the children that it took
  abbrev pub add_made : (kind : ℕ) → Payload → Taken A → Answer (Slots A)
  add_made kind payload taken = do
    x ← make kind payload taken.those
    done (taken.left ++ (Some x ∷ []))

  -- the slots once a record of this kind and payload has been read
  abbrev pub add_payload : Slots A → (kind : ℕ) → Payload → Answer (Slots A)
  add_payload slots kind payload = do
    taken ← or_refuse bad_tree (take_all (children_of payload) slots)
    add_made kind payload taken

  -- the slots once a whole record has been read
  unfoldable pub add_record : Slots A → List ℕ → Answer (Slots A)
  add_record slots bytes = do
    payload ← or_refuse bad_tree (fragment_payload bytes)
    add_payload slots (kind_of bytes) payload

  -- the records that some bytes hold, of which so many may still begin
  unfoldable pub read_from : ℕ → Slots A → List ℕ → Answer A
  read_from zero slots [] = or_refuse bad_tree (root_of slots)
  read_from zero slots (b ∷ bs) = refused tree_too_large
  read_from (suc more) slots [] = or_refuse bad_tree (root_of slots)
  read_from (suc more) slots (b ∷ bs) = do
    len ← or_refuse bad_tree (record_length (b ∷ bs))
    slots' ← add_record slots (take len (b ∷ bs))
    read_from more slots' (drop len (b ∷ bs))

  unfoldable pub read_tree : List ℕ → Answer A
  read_tree bytes = read_from max_records [] bytes
