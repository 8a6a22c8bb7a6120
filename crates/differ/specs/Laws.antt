-- What holds of the differences of every two trees: document 02, R-10. Proved in proofs/.
use Rattle.std.specs.Prelude.{ℕ, zero, suc, true, false, ◌&&◌, List, [], ◌∷◌, ◌++◌, map, ◌↔◌, ◌⊎◌, ◌≡◌}
use Rattle.trees.specs.Fragment.{Fragment}
use Rattle.trees.specs.Reading.{done}
use Rattle.trees.specs.Tree.{tree_of}
use Rattle.differ.specs.Numbered.{Numbered, NumberedList, node, end, ◌▹◌, numbered, Numbers}
use Rattle.differ.specs.Differences.{Difference, same_head, same_count, differences}

-- the numbered tree of bytes is the tree that they write
abbrev pub NumbersTheTree : Type 0
NumbersTheTree = (bytes : List ℕ) (f : Fragment) → tree_of bytes ≡ done f → Numbers (numbered bytes) f

-- there is no difference exactly if the trees are equal in structure
abbrev pub NoneIfEqual : Type 0
NoneIfEqual =
    (left right : List ℕ) (f g : Fragment) → tree_of left ≡ done f → tree_of right ≡ done g
    → (differences (numbered left) (numbered right) ≡ []) ↔ (f ≡ g)

-- exchanging the inputs exchanges the columns and keeps the places, in the same order
abbrev pub exchange : Difference → Difference
exchange d = record { left = d.right; right = d.left }

abbrev pub Exchanges : Type 0
Exchanges = (t u : Numbered) → differences u t ≡ map exchange (differences t u)

-- ---- places

-- a path from the root: the numbers of the children, the first is 0
abbrev pub Path : Type 0
Path = List ℕ

-- two trees differ at the end of a path, and at no place above it; there the records have these numbers
unfoldable mutual
  pub FirstAt : Numbered → Numbered → Path → Difference → Type 0
  FirstAt (node i h xs) (node j g ys) [] d = ((same_head h g && same_count xs ys) ≡ false) × (d ≡ record { left = i; right = j })
  FirstAt (node i h xs) (node j g ys) (c ∷ p) d = ((same_head h g && same_count xs ys) ≡ true) × FirstIn xs ys c p d

  pub FirstIn : NumberedList → NumberedList → ℕ → Path → Difference → Type 0
  FirstIn end ys c p d = ⊥
  FirstIn (x ▹ xs) end c p d = ⊥
  FirstIn (x ▹ xs) (y ▹ ys) zero p d = FirstAt x y p d
  FirstIn (x ▹ xs) (y ▹ ys) (suc c) p d = FirstIn xs ys c p d

-- a difference that is listed
unfoldable pub Listed : Difference → List Difference → Type 0
Listed d [] = ⊥
Listed d (e ∷ ds) = (d ≡ e) ⊎ Listed d ds

-- what is listed is the first place on some path where the trees differ, and each such place is listed
abbrev pub ListsFirstPlaces : Type 0
ListsFirstPlaces = (t u : Numbered) (d : Difference) → Listed d (differences t u) ↔ ((p : Path) × FirstAt t u p d)

-- no place lies below another
abbrev pub NoneBelow : Type 0
NoneBelow = (t u : Numbered) (p q : Path) (c : ℕ) (d e : Difference) → FirstAt t u p d → FirstAt t u (p ++ (c ∷ q)) e → ⊥
