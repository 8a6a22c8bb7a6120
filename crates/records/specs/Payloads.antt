-- What a record's payload says, and when it is of its shape: document 01, "Records", the paragraph on payloads; keys of 64 bits: document
-- 02, R-3.
-- A payload begins at byte 4 of its record, after the whole length and the kind. Assumes nothing.
use Rattle.std.specs.Prelude.{Bool, true, false, cond, ◌&&◌, List, [], ◌∷◌, ℕ, ◌+◌, ◌*◌, ◌-◌, eqb, leb, length, Option, None, Some}
use Rattle.records.specs.Numbers.{number_at, u16, u32, u16s, numbers_at, between, max_lock, max_count}
use Rattle.records.specs.Shapes.{is_long}
use Rattle.records.specs.declared.Shape.{Shape}

pub data Payload : Type 0 where
  nothing : Payload
  number : ℕ → Payload
  children : List ℕ → Payload
  weighted : (left right left_weight right_weight : ℕ) → Payload
  threshold : (k : ℕ) → (children : List ℕ) → Payload
  keys : (k : ℕ) → List ℕ → Payload

-- ---- where the parts stand in the bytes of a whole record

-- the kind's number as it is written
abbrev pub written_kind : List ℕ → ℕ
written_kind s = u16 s 2

-- how many bytes the number of a key, a hash or a lock has
unfoldable pub width : List ℕ → ℕ
width s = cond (is_long (written_kind s)) 8 4

-- that number
abbrev pub number_in : List ℕ → ℕ
number_in s = number_at (width s) s 4

-- a threshold's k and n
abbrev pub k_in : List ℕ → ℕ
k_in s = u16 s 4

abbrev pub count_in : List ℕ → ℕ
count_in s = u16 s 6

-- key number j of a Multi or a MultiA, counted from 0
abbrev pub key_at : List ℕ → (j : ℕ) → ℕ
key_at s j = number_at (width s) s (8 + width s * j)

-- its first n keys, those of them from number j on, and all of its keys
abbrev pub first_keys : List ℕ → (n : ℕ) → List ℕ
first_keys s n = numbers_at (width s) s 8 n

abbrev pub keys_from : List ℕ → (n j : ℕ) → List ℕ
keys_from s n j = numbers_at (width s) s (8 + width s * j) (n - j)

abbrev pub keys_in : List ℕ → List ℕ
keys_in s = first_keys s (count_in s)

-- ---- the payload

abbrev pub when : Bool → Payload → Option Payload
when true p = Some p
when false p = None

-- whether a record is k, n and then n numbers of so many bytes, with 1 ≤ k ≤ n ≤ 16
abbrev pub threshold_fits : (width : ℕ) → List ℕ → Bool
threshold_fits width s =
    leb 1 (k_in s) && leb (k_in s) (count_in s) && leb (count_in s) max_count && eqb (length s) (8 + width * count_in s)

abbrev pub children_payload : (count : ℕ) → List ℕ → Option Payload
children_payload count s = when (eqb (length s) (4 + 2 * count)) (children (u16s s 4 count))

-- the payload of a whole record, if it is of the shape
unfoldable pub payload_of : Shape → List ℕ → Option Payload
payload_of Shape.Nothing s = when (eqb (length s) 4) nothing
payload_of Shape.Number s = when (eqb (length s) (4 + width s)) (number (number_in s))
payload_of Shape.Lock s = when (eqb (length s) 8 && between 1 max_lock (number_in s)) (number (number_in s))
payload_of Shape.Weighted s = when (eqb (length s) 16) (weighted (u16 s 4) (u16 s 6) (u32 s 8) (u32 s 12))
payload_of Shape.Threshold s = when (threshold_fits 2 s) (threshold (k_in s) (u16s s 8 (count_in s)))
payload_of Shape.Keys s = when (threshold_fits (width s) s) (keys (k_in s) (keys_in s))
payload_of Shape.OneChild s = children_payload 1 s
payload_of Shape.TwoChildren s = children_payload 2 s
payload_of Shape.ThreeChildren s = children_payload 3 s

-- ---- the parts of a payload, 0 and no children where it has none

abbrev pub number_of : Payload → ℕ
number_of nothing = 0
number_of (number n) = n
number_of (children cs) = 0
number_of (weighted l r lw rw) = 0
number_of (threshold k cs) = 0
number_of (keys k ks) = 0

abbrev pub k_of : Payload → ℕ
k_of nothing = 0
k_of (number n) = 0
k_of (children cs) = 0
k_of (weighted l r lw rw) = 0
k_of (threshold k cs) = k
k_of (keys k ks) = k

-- how many children or keys
abbrev pub count_of : Payload → ℕ
count_of nothing = 0
count_of (number n) = 0
count_of (children cs) = length cs
count_of (weighted l r lw rw) = 2
count_of (threshold k cs) = length cs
count_of (keys k ks) = length ks

-- the children, as record numbers
abbrev pub children_of : Payload → List ℕ
children_of nothing = []
children_of (number n) = []
children_of (children cs) = cs
children_of (weighted l r lw rw) = l ∷ r ∷ []
children_of (threshold k cs) = cs
children_of (keys k ks) = []

abbrev pub keys_of : Payload → List ℕ
keys_of nothing = []
keys_of (number n) = []
keys_of (children cs) = []
keys_of (weighted l r lw rw) = []
keys_of (threshold k cs) = []
keys_of (keys k ks) = ks

abbrev pub left_weight_of : Payload → ℕ
left_weight_of nothing = 0
left_weight_of (number n) = 0
left_weight_of (children cs) = 0
left_weight_of (weighted l r lw rw) = lw
left_weight_of (threshold k cs) = 0
left_weight_of (keys k ks) = 0

abbrev pub right_weight_of : Payload → ℕ
right_weight_of nothing = 0
right_weight_of (number n) = 0
right_weight_of (children cs) = 0
right_weight_of (weighted l r lw rw) = rw
right_weight_of (threshold k cs) = 0
right_weight_of (keys k ks) = 0
