-- What the reader answers: the definitions of Reading, as values of this crate's types, with what holds of the array. Assumes nothing.
use Rattle.refusals.specs.declared.Refusal.{Refusal}
use Rattle.refusals.specs.Numbers.{number_of}
use Rattle.std.specs.Prelude.{Bool, true, false, cond, List, ◌≡◌, ℕ, suc, ◌+◌, ◌*◌, ◌<◌, ◌≤◌, eqb, length, Option, None, Some, Result, Ok, Err}
use Rattle.policies.specs.Policy.{Policy}
use Rattle.policies.specs.Reading.{Answer, refused, done, Next, root_of, finish, read_policy, without, max_records}
use Rattle.policies.specs.Array.{row_words, array_words, word_at, taken_at, child_at, words_from, slots_at, record_policy, policy_at, Good, put_head}
use Rattle.policies.specs.Array.{put_children}
use Rattle.records.specs.declared.Parts.{Parts}

-- ---- the children taken

-- the words of rows but for their marks, and the mark of row i, are as they were
pub record Marked (i : ℕ) (m₀ m : List ℕ) : Type 0 where
  pub long : length m ≡ length m₀
  pub rows : (x f : ℕ) → f < 22 → word_at m x f ≡ word_at m₀ x f
  pub own : taken_at m i ≡ taken_at m₀ i

-- the first n children of row i are taken, each of a smaller number, or one of them is not there
pub data Took (i n : ℕ) (m₀ m : List ℕ) : Bool → Type 0 where
  all :
      without (words_from m₀ (row_words * i + 6) n) (slots_at m₀ i) ≡ Some (slots_at m i) →
      Marked i m₀ m →
      ((j : ℕ) → j < n → child_at m₀ i j < i) →
      Took i n m₀ m true
  some-missing : without (words_from m₀ (row_words * i + 6) n) (slots_at m₀ i) ≡ None → Took i n m₀ m false

-- ---- refusals

-- the number of a refusal of the array that is lent, which no reading gives
abbrev pub bad_work : ℕ
bad_work = 2

abbrev pub OfReading : Refusal → Type 0
OfReading r = number_of r ≡ bad_work → ⊥

-- ---- one record, i being its number

abbrev pub step_answer : Result ℕ Refusal → List ℕ → ℕ → Answer Next
step_answer (Ok len) m i = done (record { len = len; slots = slots_at m (suc i) })
step_answer (Err r) m i = refused (number_of r)

abbrev pub StepGood : Result ℕ Refusal → List ℕ → Type 0
StepGood (Ok len) m = Good m
StepGood (Err r) m = OfReading r

pub record Stepped (answer : Answer Next) (step : Result ℕ Refusal) (m : List ℕ) (i : ℕ) : Type 0 where
  pub says : answer ≡ step_answer step m i
  pub good : StepGood step m

-- ---- all records

abbrev pub records_answer : Result ℕ Refusal → List ℕ → Answer Policy
records_answer (Ok count) m = finish (slots_at m count)
records_answer (Err r) m = refused (number_of r)

abbrev pub RecordsGood : Result ℕ Refusal → List ℕ → Type 0
RecordsGood (Ok count) m = Good m × (count ≤ max_records)
RecordsGood (Err r) m = OfReading r

pub record AllRead (answer : Answer Policy) (r : Result ℕ Refusal) (m : List ℕ) : Type 0 where
  pub says : answer ≡ records_answer r m
  pub good : RecordsGood r m

-- ---- the policy

-- the last of the rows is the root, or there is no root
pub data Rooted (m : List ℕ) (last : ℕ) : Bool → Type 0 where
  root : root_of (slots_at m (suc last)) ≡ Some (record_policy m last) → Rooted m last true
  no-root : root_of (slots_at m (suc last)) ≡ None → Rooted m last false

-- what a refusal's number says of the bytes: nothing, where it is of the array that is lent
abbrev pub refusal_answer : ℕ → Option (Answer Policy)
refusal_answer n = cond (eqb n bad_work) None (Some (refused n))

abbrev pub policy_answer : Result ℕ Refusal → List ℕ → Option (Answer Policy)
policy_answer (Ok i) m = Some (done (policy_at m i))
policy_answer (Err r) m = refusal_answer (number_of r)

abbrev pub PolicyGood : Result ℕ Refusal → List ℕ → Type 0
PolicyGood (Ok i) m = Good m × (i < max_records)
PolicyGood (Err r) m = Unit {0}

-- an answer, the array holding the policy where there is one
pub record Read (answer : Answer Policy) (r : Result ℕ Refusal) (m : List ℕ) : Type 0 where
  pub says : Some answer ≡ policy_answer r m
  pub good : PolicyGood r m

-- what is read of some bytes, if the array that is lent, m₀ before and m after, has its one length
pub data PolicyRead (bytes m₀ : List ℕ) (r : Result ℕ Refusal) (m : List ℕ) : Type 0 where
  reads : length m₀ ≡ array_words → Read (read_policy bytes) r m → PolicyRead bytes m₀ r m
  bad-array : (length m₀ ≡ array_words → ⊥) → r ≡ (Err Refusal.BadWork) → PolicyRead bytes m₀ r m

-- ---- a row written

abbrev pub put_row : List ℕ → (i kind : ℕ) → Parts → List ℕ
put_row m i kind parts =
    put_children
    (put_head m i kind parts.number parts.k parts.count parts.left_weight parts.right_weight)
    i
    parts.children
