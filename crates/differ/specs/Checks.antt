-- What the check of both trees comes to: document 02, R-10.
use Rattle.std.specs.Prelude.{ℕ, List, ◌≡◌, Result, Ok, Err}
use Rattle.refusals.specs.declared.Refusal.{Refusal}
use Rattle.refusals.specs.Numbers.{number_of}
use Rattle.trees.specs.Reading.{refused, done, max_records}
use Rattle.trees.specs.TreeCheck.{Typed, check_of}
use Rattle.differ.specs.Differ.{check_both}

-- both trees pass the check
pub record BothPass (context : ℕ) (left right : List ℕ) : Type 0 where
  pub first : Typed
  pub second : Typed
  pub left_is : check_of context left max_records ≡ done first
  pub right_is : check_of context right max_records ≡ done second

-- both trees pass, or the first that does not is refused
abbrev pub BothChecked : (context : ℕ) → (left right : List ℕ) → Result (Unit {0}) Refusal → Type 0
BothChecked context left right (Ok u) = BothPass context left right
BothChecked context left right (Err r) = check_both context left right ≡ refused (number_of r)
