-- When bytes are a policy, and which refusal they get: document 01, "Records" (children are smaller record numbers, each taken once, the
-- last record is the root) and "Numbers the console shows" (3, 4 and 5, and the order of the checks). Assumes nothing.
use Rattle.std.specs.Prelude.{Bool, true, false, cond, ◌&&◌, ◌||◌, List, [], ◌∷◌, ◌++◌, map, ℕ, zero, suc, eqb, leb, get_or, set, take, drop, Option, None, Some}
use Rattle.records.specs.Payloads as payload
use Rattle.records.specs.Payloads.{Payload}
use Rattle.records.specs.RecordForm.{record_length, kind_of, policy_payload}
use Rattle.policies.specs.Policy.{Policy, Unsatisfiable, depth}
use Rattle.policies.specs.Forms.{made, or_kind}

abbrev pub bad_policy : ℕ
bad_policy = 3

abbrev pub zero_weight : ℕ
zero_weight = 4

abbrev pub policy_too_large : ℕ
policy_too_large = 5

abbrev pub max_records : ℕ
max_records = 64

abbrev pub max_depth : ℕ
max_depth = 16

-- No policy that is read weighs more, by `weight-bounded` of proofs/Heaviest.antt: each of its records weighs 1, and each but the root 2
-- more where it is a child of a Thresh.
abbrev pub max_weight : ℕ
max_weight = 190

-- a result, or the number of a refusal
pub data Answer (A : Type 0) : Type 0 where
  refused : ℕ → Answer A
  done : A → Answer A

infixl 20 ◌>>=◌
abbrev pub ◌>>=◌ : {A B : Type 0} → Answer A → (A → Answer B) → Answer B
refused n >>= next = refused n
done a >>= next = next a

abbrev pub or_refuse : {A : Type 0} → ℕ → Option A → Answer A
or_refuse n (Some a) = done a
or_refuse n None = refused n

abbrev pub refuse_if : {A : Type 0} → ℕ → Bool → A → Answer A
refuse_if n true a = refused n
refuse_if n false a = done a

-- One slot for each record read so far, in order: its policy, or none once a later record has taken it as a child.
abbrev pub Slots : Type 0
Slots = List (Option Policy)

abbrev pub slot : Slots → ℕ → Option Policy
slot slots j = get_or slots j None

abbrev pub if_there : Option Policy → Option Slots → Option Slots
if_there (Some p) left = left
if_there None left = None

-- The slots without some children, taken from left to right; none where a child is not there, or is taken already.
unfoldable pub without : List ℕ → Slots → Option Slots
without [] slots = Some slots
without (j ∷ js) slots = if_there (slot slots j) (without js (set slots j None))

abbrev pub the_policy : Option Policy → Policy
the_policy (Some p) = p
the_policy None = Unsatisfiable

-- the policies in the slots of some children
abbrev pub those : List ℕ → Slots → List Policy
those js slots = map (λ j. the_policy (slot slots j)) js

-- either weight of an Or is 0
abbrev pub weighs_nothing : (kind : ℕ) → Payload → Bool
weighs_nothing kind p = eqb kind or_kind && (eqb (payload.left_weight_of p) 0 || eqb (payload.right_weight_of p) 0)

-- the policy that a record writes
abbrev pub written : (kind : ℕ) → Payload → Slots → Policy
written kind p slots =
    made kind (payload.number_of p) (payload.k_of p) (payload.left_weight_of p) (payload.right_weight_of p) (those (payload.children_of p) slots)

-- what one record leaves: its length in bytes, and the slots with its own added
pub record Next : Type 0 where
  pub len : ℕ
  pub slots : Slots

-- the record of some bytes, the whole length being known
unfoldable pub read_whole : Slots → (len : ℕ) → List ℕ → Answer Next
read_whole slots len bytes = do
  p ← or_refuse bad_policy (policy_payload bytes)
  left ← or_refuse bad_policy (without (payload.children_of p) slots)
  refuse_if zero_weight (weighs_nothing (kind_of bytes) p) (record { len = len; slots = left ++ (Some (written (kind_of bytes) p slots) ∷ []) })

-- the first record of some bytes
unfoldable pub read_record : Slots → List ℕ → Answer Next
read_record slots bytes = do
  len ← or_refuse bad_policy (record_length bytes)
  read_whole slots len (take len bytes)

-- the root: the last slot, every other being taken
unfoldable pub root_of : Slots → Option Policy
root_of [] = None
root_of (x ∷ []) = x
root_of (None ∷ x ∷ slots) = root_of (x ∷ slots)
root_of (Some y ∷ x ∷ slots) = None

unfoldable pub finish : Slots → Answer Policy
finish slots = do
  root ← or_refuse bad_policy (root_of slots)
  cond (leb (depth root) max_depth) (done root) (refused policy_too_large)

-- the policy of some bytes, of whose records so many may still begin
unfoldable pub read_from : (left : ℕ) → Slots → List ℕ → Answer Policy
read_from zero slots [] = finish slots
read_from zero slots (b ∷ bs) = refused policy_too_large
read_from (suc left) slots [] = finish slots
read_from (suc left) slots (b ∷ bs) = read_record slots (b ∷ bs) >>= λ next. read_from left next.slots (drop next.len (b ∷ bs))

unfoldable pub read_policy : List ℕ → Answer Policy
read_policy bytes = read_from max_records [] bytes
