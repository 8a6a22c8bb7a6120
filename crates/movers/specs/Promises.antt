-- What the two entries that move a policy promise: document 02, R-3.
use Rattle.std.specs.Prelude.{List, ◌≡◌, ℕ, length}
use Rattle.moving.specs.declared.Form.{Form}
use Rattle.moving.specs.Moving.{move}
use Rattle.moving.specs.Answers.{number_of, bytes_of, output_after}

-- An entry, given a policy and an output, leaves a number, an output and the count of the bytes written. A refusal has its number, no bytes, and the
-- output as it was; a policy that is moved stands in the output's first bytes, and the rest of the output is as it was.
pub record MovePromise (form : Form) (policy out : List ℕ) (number : ℕ) (left : List ℕ) (bytes : ℕ) : Type 0 where
  pub gives : number ≡ number_of (move form policy (length out))
  pub writes : left ≡ output_after (move form policy (length out)) out
  pub counts : bytes ≡ bytes_of (move form policy (length out))

-- any two outcomes that the promise allows are equal
abbrev pub MoveDetermined : Type 0
MoveDetermined =
    (form : Form) (policy out : List ℕ) (number number' : ℕ) (left left' : List ℕ) (bytes bytes' : ℕ)
    → MovePromise form policy out number left bytes → MovePromise form policy out number' left' bytes'
    → (number ≡ number') × (left ≡ left') × (bytes ≡ bytes')
