-- Writing and reading agree: document 01, "Records", with the largest tree of "Numbers the console shows" (16 TreeTooLarge).
use Rattle.std.specs.Prelude.{◌≡◌, List, ℕ, ◌≤◌}
use Rattle.trees.specs.Fragment.{Fragment}
use Rattle.trees.specs.Reading.{done, max_records}
use Rattle.trees.specs.Tree.{tree_of}
use Rattle.writing.specs.Writing.{size, bytes_of_tree}
use Rattle.writing.specs.WellFormed.{AllBelow, WellFormed}

-- reading what is written gives the tree back
abbrev pub ReadBack : Type 0
ReadBack = (f : Fragment) → WellFormed f → size f ≤ max_records → tree_of (bytes_of_tree f) ≡ done f

-- whatever is read from bytes is well formed
abbrev pub ReadsWellFormed : Type 0
ReadsWellFormed = (bytes : List ℕ) → AllBelow 256 bytes → (f : Fragment) → tree_of bytes ≡ done f → WellFormed f

-- and has no more records than a tree may have
abbrev pub ReadsFew : Type 0
ReadsFew = (bytes : List ℕ) (f : Fragment) → tree_of bytes ≡ done f → size f ≤ max_records

-- so what is read can be written, and is then read again
abbrev pub ReadAgain : Type 0
ReadAgain = (bytes : List ℕ) → AllBelow 256 bytes → (f : Fragment) → tree_of bytes ≡ done f → tree_of (bytes_of_tree f) ≡ done f
