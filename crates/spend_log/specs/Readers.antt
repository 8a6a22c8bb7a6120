-- How values are read off the front of some bytes: a reader gives a value and the bytes behind it, or nothing where it does not fit.
use Rattle.std.specs.Prelude.{ℕ, zero, suc, cond, List, [], ◌∷◌, leb, length, take, drop, Option, None, Some}
use Rattle.words.specs.Bytes.{little}

pub record Read (A : Type 0) : Type 0 where
  pub value : A
  pub behind : List ℕ

abbrev pub Reader : Type 0 → Type 0
Reader A = List ℕ → Option (Read A)

-- reads nothing, and gives a value
abbrev pub give : {A : Type 0} → A → Reader A
give x s = Some (record { value = x; behind = s })

-- does not fit
abbrev pub broken : {A : Type 0} → Reader A
broken s = None

-- one reader, and behind what it read the next one
abbrev pub onward : {A B : Type 0} → Option (Read A) → (A → Reader B) → Option (Read B)
onward None next = None
onward (Some r) next = next r.value r.behind

infixl 20 ◌>>=◌
abbrev pub ◌>>=◌ : {A B : Type 0} → Reader A → (A → Reader B) → Reader B
(r >>= next) s = onward (r s) next

-- so many bytes
unfoldable pub block : ℕ → Reader (List ℕ)
block n s = cond (leb n (length s)) (Some (record { value = take n s; behind = drop n s })) None

-- one byte
unfoldable pub byte : Reader ℕ
byte [] = None
byte (b ∷ s) = Some (record { value = b; behind = s })

-- a u32, little-endian
unfoldable pub number : Reader ℕ
number = do
  bytes ← block 4
  give (little bytes)

-- this value at the end of the bytes, and before it what a reader gives
abbrev pub end_or : {A : Type 0} → A → Reader A → Reader A
end_or x r [] = give x []
end_or x r (b ∷ s) = r (b ∷ s)

module _ {A : Type 0} (r : Reader A) where
  -- so many values, one behind the other
  unfoldable pub several : ℕ → Reader (List A)
  several zero = give []
  several (suc n) = do
    x ← r
    xs ← several n
    give (x ∷ xs)

  -- a count of values, then these
  unfoldable pub counted : Reader (List A)
  counted = do
    n ← number
    several n

  -- values up to the end of the bytes, at most so many
  unfoldable pub up_to_end : ℕ → Reader (List A)
  up_to_end zero = end_or [] broken
  up_to_end (suc most) = end_or [] (do
    x ← r
    xs ← up_to_end most
    give (x ∷ xs))

  -- values up to the end of the bytes, where each takes a byte at least
  unfoldable pub to_end : Reader (List A)
  to_end s = up_to_end (length s) s
