-- What the parts of moving answer: the definitions of Moving, as values of this crate's types. Assumes nothing.
use Rattle.refusals.specs.declared.Refusal.{Refusal}
use Rattle.refusals.specs.Numbers as refusal
use Rattle.std.specs.Prelude.{List, ◌++◌, ◌≡◌, ℕ, ltb, length, drop, Result, Ok, Err}
use Rattle.policies.specs.Reading.{Answer, refused, done, ◌>>=◌, refuse_if}
use Rattle.moving.specs.declared.Form.{Form}
use Rattle.moving.specs.Moving.{records_of, any, too_large, moved_policy, key_too_large, output_too_small}

-- how many bytes there are, or the number of a refusal
abbrev pub result_answer : Result ℕ Refusal → Answer ℕ
result_answer (Ok bytes) = done bytes
result_answer (Err r) = refused (refusal.number_of r)

-- how many bytes the moved policy has, unless a key is too large
unfoldable pub extent_of : Form → List ℕ → Answer ℕ
extent_of form policy = refuse_if key_too_large (any (too_large form) (records_of policy)) (length (moved_policy form policy))

-- a policy that is read, moved
unfoldable pub fitted : Form → (policy : List ℕ) → (room : ℕ) → Answer (List ℕ)
fitted form policy room = do
  to ← refuse_if key_too_large (any (too_large form) (records_of policy)) (moved_policy form policy)
  refuse_if output_too_small (ltb room (length to)) to

-- the number, the bytes written and the output that an answer leaves
abbrev pub number_of : Answer (List ℕ) → ℕ
number_of (refused n) = n
number_of (done to) = 0

abbrev pub bytes_of : Answer (List ℕ) → ℕ
bytes_of (refused n) = 0
bytes_of (done to) = length to

abbrev pub output_after : Answer (List ℕ) → List ℕ → List ℕ
output_after (refused n) out = out
output_after (done to) out = to ++ drop (length to) out

-- how many bytes an answer has, or the number of its refusal
abbrev pub counted : Answer (List ℕ) → Answer ℕ
counted (refused n) = refused n
counted (done to) = done (length to)

pub record Moves (answer : Answer (List ℕ)) (out : List ℕ) (r : Result ℕ Refusal) (left : List ℕ) : Type 0 where
  pub counts : result_answer r ≡ counted answer
  pub writes : left ≡ output_after answer out
