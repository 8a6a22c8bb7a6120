-- Differences told in an output, from one number of them on: document 02, R-10. One that does not fit is counted and not written, so that
-- an output of no bytes counts them.
use Rattle.std.specs.Prelude.{ℕ, suc, ◌+◌, ◌*◌, cond, List, [], ◌∷◌, ◌≡◌, leb, length, Result, Ok, Err}
use Rattle.std.proofs.lemmas.List.Edits.{sets}
use Rattle.trees.specs.Reading.{Answer}
use Rattle.refusals.specs.declared.Refusal.{Refusal}
use Rattle.claspwillow.specs.Promises.{number_of}
use Rattle.claspwillow.specs.Results.{number_in}
use Rattle.differ.specs.Differences.{Difference}
use Rattle.differ.specs.Differ.{difference_bytes, output_after, counted}

abbrev pub tell : List ℕ → (at : ℕ) → Difference → List ℕ
tell out at d = cond (leb (8 * at + 8) (length out)) (sets out (8 * at) (difference_bytes d)) out

unfoldable pub tell_all : List ℕ → (at : ℕ) → List Difference → List ℕ
tell_all out at [] = out
tell_all out at (d ∷ ds) = tell_all (tell out at d) (suc at) ds

-- Differences are told in an output from a number on, and end at another.
pub record Tells (before after : List ℕ) (at : ℕ) (ds : List Difference) (end : ℕ) : Type 0 where
  pub is : after ≡ tell_all before at ds
  pub ends : end ≡ at + length ds

-- how many differences were told, 0 on a refusal
abbrev pub count_in : Result ℕ Refusal → ℕ
count_in (Ok n) = n
count_in (Err r) = 0

-- A count or a refusal, and an output, are those of an answer.
pub record Gives (answer : Answer (List Difference)) (out told : List ℕ) (r : Result ℕ Refusal) : Type 0 where
  pub number : number_in r ≡ number_of answer
  pub writes : told ≡ output_after answer out
  pub counts : count_in r ≡ counted answer
