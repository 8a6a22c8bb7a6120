-- Which of two trees a refusal of their differences is about: document 02, R-10, both trees are checked first, the left one before the right one.
use Rattle.std.specs.Prelude.{ℕ, ◌≤◌, ◌<◌, List, ◌≡◌, Option, None, Some}
use Rattle.trees.specs.Reading.{refused, done, bad_tree, max_records}
use Rattle.trees.specs.TreeCheck.{Typed, check_of}
use Rattle.differ.specs.Differ.{check_both}
use Rattle.report.specs.declared.Side.{Side}
use Rattle.report.specs.declared.Side.TheVariants.{Left, Right}

-- a number from 14 on is what the check of both trees refuses with
abbrev pub Refuses : (context : ℕ) → (left right : List ℕ) → (number : ℕ) → Type 0
Refuses context left right number = bad_tree ≤ number → check_both context left right ≡ refused number

-- The tree that is named is refused with that number, the right one where the left one passes; a lower number is about neither.
abbrev pub Accuses : (context : ℕ) → (left right : List ℕ) → (number : ℕ) → Option Side → Type 0
Accuses context left right number (Some Left) = check_of context left max_records ≡ refused number
Accuses context left right number (Some Right) =
    ((x : Typed) × (check_of context left max_records ≡ done x)) × (check_of context right max_records ≡ refused number)
Accuses context left right number None = number < bad_tree
