-- How many records a fragment takes: as many as write it. Assumes nothing.
use Prim.Native.Nat.{ℕ, zero, suc, ◌+◌}
use mathlib.Core.List.{List}
use mathlib.Core.Path.{◌≡◌, refl, ap, ◌∙◌}
use native.Mathlib.Omega.{arith}
use Rattle.trees.specs.Fragment.{Fragment, Fragments, end, ◌▹◌, to_list, False, True, PkK, PkH, Lock, Hash}
use Rattle.trees.specs.Fragment.{Alt, Swap, Check, DupIf, Verify, NonZero, ZeroNotEqual}
use Rattle.trees.specs.Fragment.{AndB, AndV, OrB, OrD, OrC, OrI, AndOr, Thresh, Multi, MultiA}
use Rattle.walk.specs.TreeRecords.{TreeRecords}
use Rattle.walk.specs.Heads.{children_in}
use Rattle.walk.specs.Folds.{every, over_records, Gathers, OwnAndChildren}
use Rattle.walk.proofs.FoldLaws.{over-records}

unfoldable mutual
  pub taken : Fragment → ℕ
  taken False = 1
  taken True = 1
  taken (PkK n) = 1
  taken (PkH n) = 1
  taken (Lock kind n) = 1
  taken (Hash kind h) = 1
  taken (Alt x) = 1 + (taken x + 0)
  taken (Swap x) = 1 + (taken x + 0)
  taken (Check x) = 1 + (taken x + 0)
  taken (DupIf x) = 1 + (taken x + 0)
  taken (Verify x) = 1 + (taken x + 0)
  taken (NonZero x) = 1 + (taken x + 0)
  taken (ZeroNotEqual x) = 1 + (taken x + 0)
  taken (AndB x y) = 1 + (taken x + (taken y + 0))
  taken (AndV x y) = 1 + (taken x + (taken y + 0))
  taken (OrB x y) = 1 + (taken x + (taken y + 0))
  taken (OrD x y) = 1 + (taken x + (taken y + 0))
  taken (OrC x y) = 1 + (taken x + (taken y + 0))
  taken (OrI x y) = 1 + (taken x + (taken y + 0))
  taken (AndOr x y z) = 1 + (taken x + (taken y + (taken z + 0)))
  taken (Thresh k xs) = 1 + taken_all xs
  taken (Multi k keys) = 1
  taken (MultiA k keys) = 1

  pub taken_all : Fragments → ℕ
  taken_all end = 0
  taken_all (x ▹ xs) = taken x + taken_all xs

sums : Gathers ◌+◌ 0
sums = record { right-unit = λ x. omega arith; assoc = λ x y z. omega arith; comm = λ x y. omega arith }

taken-all : (xs : Fragments) → taken_all xs ≡ every ◌+◌ 0 taken (to_list xs)
unfolding taken_all to_list every
taken-all end = refl
taken-all (x ▹ xs) = rw (taken-all xs)

pub splits : OwnAndChildren ◌+◌ 0 taken (λ _. 1)
unfolding taken children_in every
splits False = refl
splits True = refl
splits (PkK n) = refl
splits (PkH n) = refl
splits (Lock kind n) = refl
splits (Hash kind h) = refl
splits (Alt x) = refl
splits (Swap x) = refl
splits (Check x) = refl
splits (DupIf x) = refl
splits (Verify x) = refl
splits (NonZero x) = refl
splits (ZeroNotEqual x) = refl
splits (AndB x y) = refl
splits (AndV x y) = refl
splits (OrB x y) = refl
splits (OrD x y) = refl
splits (OrC x y) = refl
splits (OrI x y) = refl
splits (AndOr x y z) = refl
splits (Thresh k xs) = ap (λ (n : ℕ). 1 + n) (taken-all xs)
splits (Multi k keys) = refl
splits (MultiA k keys) = refl

ones : (tree : List ℕ) (n : ℕ) → over_records ◌+◌ 0 (λ _. 1) tree n ≡ n
unfolding over_records
ones tree zero = refl
ones tree (suc n) = rw (ones tree n) (omega arith)

-- a tree takes the records that write it
pub taken-all-records : {tree : List ℕ} {f : Fragment} (r : TreeRecords tree f) → taken f ≡ r.count
taken-all-records {tree} r = over-records ◌+◌ 0 sums taken (λ _. 1) splits r ∙ ones tree r.count
