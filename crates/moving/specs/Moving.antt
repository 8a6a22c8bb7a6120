-- What moving a policy is: document 02, R-3. Kinds 3 and 19 are a Key with a number of 32 and of 64 bits; all other records stay, and so does the
-- order. Assumes nothing.
use Rattle.std.specs.Prelude.{Bool, false, cond, ◌||◌, ◌&&◌, List, [], ◌∷◌, ◌++◌, map, ℕ, zero, suc, eqb, ltb, length, take, drop, Option, None, Some}
use Rattle.words.specs.Bytes.{bytes_of}
use Rattle.records.specs.Payloads.{written_kind, number_in}
use Rattle.records.specs.RecordForm.{record_length}
use Rattle.writing.specs.Writing.{record_of}
use Rattle.policies.specs.Reading.{Answer, ◌>>=◌, refuse_if, read_policy, max_records}
use Rattle.moving.specs.declared.Form.{Form}
use Rattle.moving.specs.declared.Form.TheVariants.{Old, New}

-- ---- a key in either form

abbrev pub key_kind : Form → ℕ
key_kind Old = 3
key_kind New = 19

-- how many bytes its number has
abbrev pub key_width : Form → ℕ
key_width Old = 4
key_width New = 8

-- which numbers do not fit
abbrev pub exceeds : Form → (key : ℕ) → Bool
exceeds Old key = ltb 4294967295 key
exceeds New key = false

abbrev pub other : Form → Form
other Old = New
other New = Old

abbrev pub key_record : Form → (key : ℕ) → List ℕ
key_record form key = record_of (key_kind form) (bytes_of (key_width form) key)

-- ---- one record

-- a key of the other form is to be moved
abbrev pub moves : Form → List ℕ → Bool
moves form s = eqb (written_kind s) (key_kind (other form))

-- that key in this form; any other record stays
unfoldable pub moved : Form → List ℕ → List ℕ
moved form s = cond (moves form s) (key_record form (number_in s)) s

-- a key is to be moved that does not fit
unfoldable pub too_large : Form → List ℕ → Bool
too_large form s = moves form s && exceeds form (number_in s)

-- ---- a policy

abbrev pub first_and : Option ℕ → List ℕ → (List ℕ → List (List ℕ)) → List (List ℕ)
first_and (Some len) s others = take len s ∷ others (drop len s)
first_and None s others = []

-- the records that some bytes begin with, at most so many
unfoldable pub records_from : (most : ℕ) → List ℕ → List (List ℕ)
records_from zero s = []
records_from (suc most) s = first_and (record_length s) s (λ rest. records_from most rest)

unfoldable pub records_of : List ℕ → List (List ℕ)
records_of policy = records_from max_records policy

-- records one after the other
unfoldable pub in_order : List (List ℕ) → List ℕ
in_order [] = []
in_order (r ∷ rs) = r ++ in_order rs

unfoldable pub any : (List ℕ → Bool) → List (List ℕ) → Bool
any p [] = false
any p (r ∷ rs) = p r || any p rs

unfoldable pub moved_policy : Form → List ℕ → List ℕ
moved_policy form policy = in_order (map (moved form) (records_of policy))

abbrev pub key_too_large : ℕ
key_too_large = 18

abbrev pub output_too_small : ℕ
output_too_small = 13

-- the policy that some bytes are, moved, with so many bytes of room for it; or the number of a refusal
unfoldable pub move : Form → (policy : List ℕ) → (room : ℕ) → Answer (List ℕ)
move form policy room = do
  _ ← read_policy policy
  to ← refuse_if key_too_large (any (too_large form) (records_of policy)) (moved_policy form policy)
  refuse_if output_too_small (ltb room (length to)) to
