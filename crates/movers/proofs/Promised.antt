-- What an entry gives is what moving answers. Assumes nothing.
use mathlib.Core.Path.{◌≡◌, refl, ap, ◌∙◌}
use mathlib.Core.List.{List}
use Rattle.std.specs.Prelude.{Result, Ok, Err}
use Prim.Native.Nat.{ℕ}
use lib.ListN.{length}
use Rattle.refusals.specs.declared.Refusal.{Refusal}
use Rattle.refusals.specs.Numbers as refusal
use Rattle.policies.specs.Reading.{Answer, refused, done}
use Rattle.moving.specs.declared.Form.{Form}
use Rattle.moving.specs.Moving.{move}
use Rattle.moving.specs.Answers.{number_of, bytes_of, counted, Moves}
use Rattle.movers.specs.Promises.{MovePromise}

-- the number and the bytes that a count of bytes stands for
abbrev number_in : Answer ℕ → ℕ
number_in (refused n) = n
number_in (done bytes) = 0

abbrev bytes_in : Answer ℕ → ℕ
bytes_in (refused n) = 0
bytes_in (done bytes) = bytes

number-is : (a : Answer (List ℕ)) → number_in (counted a) ≡ number_of a
number-is (refused n) = refl
number-is (done to) = refl

bytes-are : (a : Answer (List ℕ)) → bytes_in (counted a) ≡ bytes_of a
bytes-are (refused n) = refl
bytes-are (done to) = refl

module _ (form : Form) (policy out left : List ℕ) where
  pub moved : {bytes : ℕ} → Moves (move form policy (length out)) out (Ok bytes) left → MovePromise form policy out 0 left bytes
  moved m =
      record {
        gives = ap number_in m.counts ∙ number-is (move form policy (length out));
        writes = m.writes;
        counts = ap bytes_in m.counts ∙ bytes-are (move form policy (length out));
      }

  pub refuses : {r : Refusal} → Moves (move form policy (length out)) out (Err r) left → MovePromise form policy out (refusal.number_of r) left 0
  refuses m =
      record {
        gives = ap number_in m.counts ∙ number-is (move form policy (length out));
        writes = m.writes;
        counts = ap bytes_in m.counts ∙ bytes-are (move form policy (length out));
      }
