-- How tall a fragment tree is, and how tall one may be: document 02, R-8. A leaf is 1 high, Multi and MultiA among them.
use Rattle.std.specs.Prelude.{ℕ, suc, max}
use Rattle.trees.specs.Fragment.{Fragment, Fragments, end, ◌▹◌, False, True, PkK, PkH, Lock, Hash}
use Rattle.trees.specs.Fragment.{Alt, Swap, Check, DupIf, Verify, NonZero, ZeroNotEqual}
use Rattle.trees.specs.Fragment.{AndB, AndV, OrB, OrD, OrC, OrI, AndOr, Thresh, Multi, MultiA}

abbrev pub max_height : ℕ
max_height = 128

unfoldable mutual
  pub height_of : Fragment → ℕ
  height_of False = 1
  height_of True = 1
  height_of (PkK n) = 1
  height_of (PkH n) = 1
  height_of (Lock kind n) = 1
  height_of (Hash kind h) = 1
  height_of (Alt x) = suc (height_of x)
  height_of (Swap x) = suc (height_of x)
  height_of (Check x) = suc (height_of x)
  height_of (DupIf x) = suc (height_of x)
  height_of (Verify x) = suc (height_of x)
  height_of (NonZero x) = suc (height_of x)
  height_of (ZeroNotEqual x) = suc (height_of x)
  height_of (AndB x y) = suc (max (height_of x) (height_of y))
  height_of (AndV x y) = suc (max (height_of x) (height_of y))
  height_of (OrB x y) = suc (max (height_of x) (height_of y))
  height_of (OrD x y) = suc (max (height_of x) (height_of y))
  height_of (OrC x y) = suc (max (height_of x) (height_of y))
  height_of (OrI x y) = suc (max (height_of x) (height_of y))
  height_of (AndOr x y z) = suc (max (height_of x) (max (height_of y) (height_of z)))
  height_of (Thresh k xs) = suc (tallest_of xs)
  height_of (Multi k keys) = 1
  height_of (MultiA k keys) = 1

  -- of the children of a Thresh
  pub tallest_of : Fragments → ℕ
  tallest_of end = 0
  tallest_of (x ▹ xs) = max (height_of x) (tallest_of xs)
