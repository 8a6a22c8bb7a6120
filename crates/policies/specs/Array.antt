-- The array of numbers that a policy is read into, and the policies that its numbers stand for.
--
-- The array has 64 rows of 40 words, one for each record: the kind, the number, k, n, the two weights, sixteen children, whether a later
-- record has taken it, and classes. A record's number is that of its row. The Ands that a Thresh with k = n folds to (document 01, "Forms
-- that must change") take no row: number 64 + 16 i + t is the And over the first t + 2 children of record i. Assumes nothing.
use Rattle.std.specs.Prelude.{cond, ◌&&◌, List, [], ◌∷◌, ◌++◌, map, ℕ, zero, suc, ◌+◌, ◌*◌, ◌-◌, ◌/◌, ◌%◌, ◌<◌, ◌≤◌, ◌≡◌, eqb, ltb, length, get_or, set, Option, None, Some}
use Rattle.std.proofs.lemmas.List.Edits.{sets}
use Rattle.policies.specs.Policy.{Policy, And}
use Rattle.policies.specs.Forms.{made, nth, and_kind, or_kind, thresh_kind}
use Rattle.policies.specs.Reading.{Slots, max_records}

-- ---- rows

abbrev pub row_words : ℕ
row_words = 40

abbrev pub array_words : ℕ
array_words = 2560

abbrev pub word_at : List ℕ → (i f : ℕ) → ℕ
word_at m i f = get_or m (row_words * i + f) 0

abbrev pub kind_at : List ℕ → ℕ → ℕ
kind_at m i = word_at m i 0

abbrev pub child_at : List ℕ → (i j : ℕ) → ℕ
child_at m i j = word_at m i (6 + j)

abbrev pub taken_at : List ℕ → ℕ → ℕ
taken_at m i = word_at m i 22

-- how many children a record of a kind has, n being a Thresh's
abbrev pub arity : (kind n : ℕ) → ℕ
arity kind n = cond (eqb kind and_kind) 2 (cond (eqb kind or_kind) 2 (cond (eqb kind thresh_kind) n 0))

abbrev pub count_at : List ℕ → ℕ → ℕ
count_at m i = arity (kind_at m i) (word_at m i 3)

-- so many words in a row
unfoldable pub words_from : List ℕ → (at n : ℕ) → List ℕ
words_from m at zero = []
words_from m at (suc n) = get_or m at 0 ∷ words_from m (suc at) n

abbrev pub children_at : List ℕ → ℕ → List ℕ
children_at m i = words_from m (row_words * i + 6) (count_at m i)

-- ---- policies

-- the policy of a row, given the policies of the rows before it
unfoldable pub row_policy : List ℕ → ℕ → List Policy → Policy
row_policy m i ps =
    made (kind_at m i) (word_at m i 1) (word_at m i 2) (word_at m i 4) (word_at m i 5) (map (λ c. nth ps c) (children_at m i))

-- the policies of the first n rows
unfoldable pub policies : List ℕ → ℕ → List Policy
policies m zero = []
policies m (suc n) = policies m n ++ (row_policy m n (policies m n) ∷ [])

abbrev pub record_policy : List ℕ → ℕ → Policy
record_policy m i = nth (policies m max_records) i

-- the And over the first t + 2 children of a record
unfoldable pub and_policy : List ℕ → (i t : ℕ) → Policy
and_policy m i zero = And (record_policy m (child_at m i 0)) (record_policy m (child_at m i 1))
and_policy m i (suc t) = And (and_policy m i t) (record_policy m (child_at m i (suc (suc t))))

abbrev pub max_children : ℕ
max_children = 16

abbrev pub and_number : (i t : ℕ) → ℕ
and_number i t = max_records + max_children * i + t

-- the record, and the place among its Ands, of a number from 64 on
abbrev pub of_record : ℕ → ℕ
of_record r = (r - max_records) / max_children

abbrev pub place : ℕ → ℕ
place r = (r - max_records) % max_children

-- the policy that a number stands for
unfoldable pub policy_at : List ℕ → ℕ → Policy
policy_at m r = cond (ltb r max_records) (record_policy m r) (and_policy m (of_record r) (place r))

-- ---- what holds of the array once a policy is read

-- the array is whole, and no record has more than sixteen children
pub record Rows (m : List ℕ) : Type 0 where
  pub long : length m ≡ array_words
  pub few : (i : ℕ) → i < max_records → count_at m i ≤ max_children

-- besides, each child's number is smaller than its record's, and of a Thresh 1 ≤ k ≤ n
pub record Good (m : List ℕ) : Type 0 where
  pub rows : Rows m
  pub below : (i j : ℕ) → i < max_records → j < count_at m i → child_at m i j < i
  pub some_of : (i : ℕ) → i < max_records → kind_at m i ≡ thresh_kind → (1 ≤ word_at m i 2) × (word_at m i 2 ≤ word_at m i 3)

-- the numbers that stand for policies: of records, and of the Ands over a record's children
pub data Named (m : List ℕ) (r : ℕ) : Type 0 where
  stored : r < max_records → Named m r
  folds : (i t : ℕ) → r ≡ and_number i t → i < max_records → suc t < count_at m i → Named m r

-- the slots of the first n rows
abbrev pub slot_at : List ℕ → ℕ → Option Policy
slot_at m i = cond (eqb (taken_at m i) 0) (Some (record_policy m i)) None

unfoldable pub slots_at : List ℕ → ℕ → Slots
slots_at m zero = []
slots_at m (suc n) = slots_at m n ++ (slot_at m n ∷ [])

-- ---- a row written

-- the head of a row: its kind and its numbers, and that no record has taken it
unfoldable pub put_head : List ℕ → (i kind number k n left_weight right_weight : ℕ) → List ℕ
put_head m i kind number k n left_weight right_weight =
    set (sets m (row_words * i) (kind ∷ number ∷ k ∷ n ∷ left_weight ∷ right_weight ∷ [])) (row_words * i + 22) 0

-- the sixteen children of a row
unfoldable pub put_children : List ℕ → (i : ℕ) → List ℕ → List ℕ
put_children m i children = sets m (row_words * i + 6) children

-- ---- numbers of children, and of the Ands

-- child j of a row
abbrev pub row_child : List ℕ → (i j : ℕ) → ℕ
row_child m i j = cond (ltb i max_records && ltb j max_children) (child_at m i j) 0

-- child j of what a number stands for: of a record, and of an And, whose left child is the And before it or the record's first child
unfoldable pub child_number : List ℕ → (r j : ℕ) → ℕ
child_number m r j =
    cond (ltb r max_records) (row_child m r j)
    (cond (eqb j 1) (row_child m (of_record r) (place r + 1))
    (cond (eqb (place r) 0) (row_child m (of_record r) 0) (r - 1)))

-- what a record's children fold to, of which there are n
unfoldable pub fold_number : List ℕ → (i n : ℕ) → ℕ
fold_number m i n = cond (ltb n 2) (row_child m i 0) (and_number i (n - 2))
