-- Two trees have no more differences than the left one has records. Assumes nothing.
use Prim.Native.Nat.{ℕ, suc, ◌+◌, ◌-◌, ◌≤◌, ◌<◌}
use mathlib.Core.Bool.{Bool, true, false, ◌&&◌, cond}
use mathlib.Core.List.{List, [], ◌∷◌}
use mathlib.Core.Path.{◌≡◌, refl, ap, ◌∙◌}
use native.Mathlib.Omega.{arith}
use lib.ListN.{length, length-append}
use Rattle.trees.specs.Fragment.{Fragment}
use Rattle.trees.specs.Reading.{max_records}
use Rattle.walk.specs.TreeRecords.{TreeRecords, fragment_at}
use Rattle.walk.specs.Heads.{children_in}
use Rattle.walk.specs.Folds.{every}
use Rattle.differ.specs.Numbered.{Numbered, NumberedList, node, end, ◌▹◌, Numbers, NumbersAll}
use Rattle.differ.specs.Differences.{Difference, same_head, same_count, differences, differences_in}
use Rattle.differ.specs.Records.{numbered_at, size_of, sizes_of}
use Rattle.differ.proofs.Numbering.{numbers-at}
use Rattle.differ.proofs.Taken.{taken, splits, taken-all-records}

-- ---- differences and records of the left tree

few-if : (b : Bool) (d : Difference) (ds : List Difference) (n : ℕ) → length ds ≤ n → length (cond b ds (d ∷ [])) ≤ suc n
few-if true d ds n h = omega arith
few-if false d ds n h = omega arith

mutual
  unfolding differences differences_in size_of sizes_of

  pub few-differences : (t u : Numbered) → length (differences t u) ≤ size_of t
  few-differences (node i h xs) (node j g ys) =
      few-if (same_head h g && same_count xs ys) (record { left = i; right = j }) (differences_in xs ys) (sizes_of xs) (few-in xs ys)

  few-in : (xs ys : NumberedList) → length (differences_in xs ys) ≤ sizes_of xs
  few-in end ys = omega arith
  few-in (x ▹ xs) end = omega arith
  few-in (x ▹ xs) (y ▹ ys) =
      omega (arith, length-append (differences x y) (differences_in xs ys), few-differences x y, few-in xs ys)

-- ---- the records of a numbered tree

mutual
  unfolding Numbers NumbersAll size_of sizes_of every

  size_is : (t : Numbered) (f : Fragment) → Numbers t f → size_of t ≡ taken f
  size_is (node i h xs) f n = omega (arith, sizes-are xs (children_in f) n.1, splits f)

  sizes-are : (xs : NumberedList) (fs : List Fragment) → NumbersAll xs fs → sizes_of xs ≡ every ◌+◌ 0 taken fs
  sizes-are end [] n = refl
  sizes-are end (f ∷ fs) n = absurd n
  sizes-are (x ▹ xs) [] n = absurd n
  sizes-are (x ▹ xs) (f ∷ fs) n = rw (size_is x f n.0, sizes-are xs fs n.1)

-- a tree has no more records than it may
pub few-records : {tree : List ℕ} {f : Fragment} (r : TreeRecords tree f) → size_of (numbered_at tree (r.count - 1)) ≤ max_records
few-records {tree} {f} r =
    let last : r.count - 1 < r.count = omega (arith, r.any) in
    let size : size_of (numbered_at tree (r.count - 1)) ≡ r.count =
    size_is (numbered_at tree (r.count - 1)) (fragment_at tree (r.count - 1)) (numbers-at r (r.count - 1) last)
    ∙ ap taken r.root ∙ taken-all-records r in
    omega (arith, size, r.few)
