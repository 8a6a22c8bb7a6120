-- What differs between two trees: document 02, R-10. From the root, children left to right, the first place on each path where the two
-- records differ in kind, number, k or keys or have another count of children.
use Rattle.std.specs.Prelude.{ℕ, Bool, true, false, ◌&&◌, cond, List, [], ◌∷◌, ◌++◌, eqb}
use Rattle.walk.specs.Heads.{Head}
use Rattle.differ.specs.Numbered.{Numbered, NumberedList, node, end, ◌▹◌}

-- the numbers of the two records
pub record Difference : Type 0 where
  pub left : ℕ
  pub right : ℕ

unfoldable pub same_keys : List ℕ → List ℕ → Bool
same_keys [] [] = true
same_keys [] (j ∷ js) = false
same_keys (i ∷ is) [] = false
same_keys (i ∷ is) (j ∷ js) = eqb i j && same_keys is js

-- kind, number, k and keys
abbrev pub same_head : Head → Head → Bool
same_head h g = eqb h.kind g.kind && (eqb h.number g.number && (eqb h.k g.k && same_keys h.keys g.keys))

unfoldable pub same_count : NumberedList → NumberedList → Bool
same_count end end = true
same_count end (y ▹ ys) = false
same_count (x ▹ xs) end = false
same_count (x ▹ xs) (y ▹ ys) = same_count xs ys

unfoldable mutual
  pub differences : Numbered → Numbered → List Difference
  differences (node i h xs) (node j g ys) =
      cond (same_head h g && same_count xs ys) (differences_in xs ys) (record { left = i; right = j } ∷ [])

  -- the children side by side
  pub differences_in : NumberedList → NumberedList → List Difference
  differences_in end ys = []
  differences_in (x ▹ xs) end = []
  differences_in (x ▹ xs) (y ▹ ys) = differences x y ++ differences_in xs ys
