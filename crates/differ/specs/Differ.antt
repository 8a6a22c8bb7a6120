-- What the entry gives: document 02, R-10. A context or work memory that is none of its own, then the left tree and then the right one are
-- refused as the tree check does; then too little room is 13.
use Rattle.std.specs.Prelude.{ℕ, ◌*◌, cond, List, [], ◌∷◌, ◌++◌, ◌≡◌, eqb, leb, length, drop, Option, None, Some}
use Rattle.words.specs.Bytes.{bytes_of}
use Rattle.words.specs.Memory.{zeroed}
use Rattle.trees.specs.Reading.{Answer, refused, done, ◌>>=◌, or_refuse, max_records}
use Rattle.trees.specs.TreeCheck.{Typed, bad_context, bad_work, context_of, check_of}
use Rattle.claspwillow.specs.Promises.{number_of}
use Rattle.differ.specs.Numbered.{numbered}
use Rattle.differ.specs.Differences.{Difference, differences}

abbrev pub output_too_small : ℕ
output_too_small = 13

-- the one length of work memory: a word for each record that either tree may have
abbrev pub work_words : ℕ
work_words = 8192

abbrev pub work_of : ℕ → Option ℕ
work_of words = cond (eqb words work_words) (Some words) None

-- a difference in bytes, two u32, and all of them
abbrev pub difference_bytes : Difference → List ℕ
difference_bytes d = bytes_of 4 d.left ++ bytes_of 4 d.right

unfoldable pub differences_bytes : List Difference → List ℕ
differences_bytes [] = []
differences_bytes (d ∷ ds) = difference_bytes d ++ differences_bytes ds

-- differences that fit in so much room
abbrev pub fitting : (room : ℕ) → List Difference → Answer (List Difference)
fitting room ds = cond (leb (8 * length ds) room) (done ds) (refused output_too_small)

-- the check of both trees, the left one first
abbrev pub check_both : (context : ℕ) → (left right : List ℕ) → Answer Typed
check_both context left right = do
  _ ← check_of context left max_records
  check_of context right max_records

-- The differences, or the number of a refusal, for a context's number, two trees, an output and work memory.
unfoldable pub differ_of : (context : ℕ) → (left right out work : List ℕ) → Answer (List Difference)
differ_of context left right out work = do
  _ ← or_refuse bad_context (context_of context)
  _ ← or_refuse bad_work (work_of (length work))
  _ ← check_both context left right
  fitting (length out) (differences (numbered left) (numbered right))

-- the output: the differences, then what stood there; all that stood there on a refusal
abbrev pub output_after : Answer (List Difference) → List ℕ → List ℕ
output_after (refused n) out = out
output_after (done ds) out = differences_bytes ds ++ drop (8 * length ds) out

-- how many there are, 0 on a refusal
abbrev pub counted : Answer (List Difference) → ℕ
counted (refused n) = 0
counted (done ds) = length ds

-- The entry, given these, leaves a number, an output, a count of differences and work memory.
pub record DifferPromise
    (context : ℕ) (left right out work : List ℕ) (number : ℕ) (told : List ℕ) (count : ℕ) (after : List ℕ) : Type 0 where
  pub gives : number ≡ number_of (differ_of context left right out work)
  pub writes : told ≡ output_after (differ_of context left right out work) out
  pub counts : count ≡ counted (differ_of context left right out work)
  pub clears : after ≡ zeroed work

-- Any two outcomes that the promise allows are equal.
abbrev pub DifferDetermined : Type 0
DifferDetermined =
    (context : ℕ) (left right out work : List ℕ) (number number' : ℕ) (told told' : List ℕ) (count count' : ℕ) (after after' : List ℕ)
    → DifferPromise context left right out work number told count after → DifferPromise context left right out work number' told' count' after'
    → (number ≡ number') × (told ≡ told') × (count ≡ count') × (after ≡ after')
