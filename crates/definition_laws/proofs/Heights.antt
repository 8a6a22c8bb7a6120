-- The figure of a tree's height counts from 0 where its height counts from 1: specs/Heights.antt.
use mathlib.Core.Bool.{Bool, true, false, cond}
use mathlib.Core.List.{List, [], ◌∷◌}
use mathlib.Core.Path.{◌≡◌, refl, sym, ap, ◌∙◌}
use Prim.Native.Nat.{ℕ, suc, max, ◌+◌, ◌≤◌}
use native.Mathlib.Omega.{arith}
use borrow.Author.Tests.{leb-true, leb-false}
use lib.Dec.{leb}
use lib.ListN.{length}
use Rattle.contexts.specs.declared.Context.{Context}
use Rattle.contexts.specs.Leaves.{LockKind, After, Older, HashKind, Sha256, Hash256, Ripemd160, Hash160}
use Rattle.figures.specs.declared.ExtData.{ExtData}
use Rattle.figures.specs.Rules as ext
use Rattle.figures.specs.Rules.{false_ext, true_ext, pk_k, pk_h, multi, multi_a, sha256, hash256, ripemd160, hash160, after, older}
use Rattle.figures.specs.Rules.{cast_alt, cast_swap, cast_check, cast_dupif, cast_verify, cast_nonzero, cast_zeronotequal}
use Rattle.figures.specs.Rules.{and_b, and_v, or_b, or_d, or_c, or_i, and_or}
use Rattle.thresholds.specs.Threshold.{threshold, heights}
use Rattle.trees.specs.Fragment.{Fragment, Fragments, end, ◌▹◌, to_list, False, True, PkK, PkH, Lock, Hash}
use Rattle.trees.specs.Fragment.{Alt, Swap, Check, DupIf, Verify, NonZero, ZeroNotEqual}
use Rattle.trees.specs.Fragment.{AndB, AndV, OrB, OrD, OrC, OrI, AndOr, Thresh, Multi, MultiA}
use Rattle.trees.specs.Height.{height_of, tallest_of}
use Rattle.writing.specs.WellFormed.{WellFormed, AllWellFormed}
use Rattle.definition.specs.Candidates.{lock_ext, hash_ext}
use Rattle.definition_laws.specs.Laws.{figures_of, figures_of_all}
use Rattle.definition_laws.specs.Heights.{HeightOfTree}

-- the greater of two figures
greater : (a b : ℕ) → ext.max a b ≡ max a b
greater a b = by-test (leb a b) refl
  where
    by-test : (t : Bool) → leb a b ≡ t → cond t b a ≡ max a b
    by-test true e = omega (arith, leb-true a b e)
    by-test false e = omega (arith, leb-false a b e)

lock-height : (kind : LockKind) (n : ℕ) → suc (lock_ext kind n).tree_height ≡ 1
unfolding after older
lock-height After n = refl
lock-height Older n = refl

hash-height : (kind : HashKind) → suc (hash_ext kind).tree_height ≡ 1
unfolding sha256 hash256 ripemd160 hash160
hash-height Sha256 = refl
hash-height Hash256 = refl
hash-height Ripemd160 = refl
hash-height Hash160 = refl

over-two : (a b x y : ℕ) → suc a ≡ x → suc b ≡ y → suc (1 + ext.max a b) ≡ suc (max x y)
over-two a b x y h k = omega (arith, greater a b)

over-three : (a b d x y z : ℕ) → suc a ≡ x → suc b ≡ y → suc d ≡ z → suc (1 + ext.max a (ext.max b d)) ≡ suc (max x (max y z))
over-three a b d x y z h k l = omega (arith, greater a (ext.max b d), greater b d)

-- a tree is 1 high at least, and so is one of some children
positive : (f : Fragment) → 1 ≤ height_of f
unfolding height_of
positive False = omega arith
positive True = omega arith
positive (PkK n) = omega arith
positive (PkH n) = omega arith
positive (Lock kind n) = omega arith
positive (Hash kind h) = omega arith
positive (Alt x) = omega arith
positive (Swap x) = omega arith
positive (Check x) = omega arith
positive (DupIf x) = omega arith
positive (Verify x) = omega arith
positive (NonZero x) = omega arith
positive (ZeroNotEqual x) = omega arith
positive (AndB x y) = omega arith
positive (AndV x y) = omega arith
positive (OrB x y) = omega arith
positive (OrD x y) = omega arith
positive (OrC x y) = omega arith
positive (OrI x y) = omega arith
positive (AndOr x y z) = omega arith
positive (Thresh k xs) = omega arith
positive (Multi k keys) = omega arith
positive (MultiA k keys) = omega arith

some-tall : (xs : Fragments) → 1 ≤ length (to_list xs) → 1 ≤ tallest_of xs
unfolding to_list tallest_of
some-tall end h = absurd (omega arith)
some-tall (x ▹ xs) h = omega (arith, positive x)

mutual
  unfolding WellFormed AllWellFormed figures_of figures_of_all height_of tallest_of false_ext true_ext pk_k pk_h multi multi_a cast_alt cast_swap
      cast_check cast_dupif cast_verify cast_nonzero cast_zeronotequal and_b and_v or_b or_d or_c or_i and_or threshold

  figure-height : (c : Context) (f : Fragment) → WellFormed f → suc (figures_of c f).tree_height ≡ height_of f
  figure-height c False w = refl
  figure-height c True w = refl
  figure-height c (PkK n) w = refl
  figure-height c (PkH n) w = refl
  figure-height c (Lock kind n) w = lock-height kind n
  figure-height c (Hash kind h) w = hash-height kind
  figure-height c (Alt x) w = omega (arith, figure-height c x w)
  figure-height c (Swap x) w = omega (arith, figure-height c x w)
  figure-height c (Check x) w = omega (arith, figure-height c x w)
  figure-height c (DupIf x) w = omega (arith, figure-height c x w)
  figure-height c (Verify x) w = omega (arith, figure-height c x w)
  figure-height c (NonZero x) w = omega (arith, figure-height c x w)
  figure-height c (ZeroNotEqual x) w = omega (arith, figure-height c x w)
  figure-height c (AndB x y) w = over-two _ _ _ _ (figure-height c x w.0) (figure-height c y w.1)
  figure-height c (AndV x y) w = over-two _ _ _ _ (figure-height c x w.0) (figure-height c y w.1)
  figure-height c (OrB x y) w = over-two _ _ _ _ (figure-height c x w.0) (figure-height c y w.1)
  figure-height c (OrD x y) w = over-two _ _ _ _ (figure-height c x w.0) (figure-height c y w.1)
  figure-height c (OrC x y) w = over-two _ _ _ _ (figure-height c x w.0) (figure-height c y w.1)
  figure-height c (OrI x y) w = over-two _ _ _ _ (figure-height c x w.0) (figure-height c y w.1)
  figure-height c (AndOr x y z) w =
      over-three _ _ _ _ _ _ (figure-height c x w.0) (figure-height c y w.1) (figure-height c z w.2)
  figure-height c (Thresh k xs) w = omega (arith, figures-height c xs w.1 0, some-tall xs (omega (arith, w.0.0, w.0.1)))
  figure-height c (Multi k keys) w = refl
  figure-height c (MultiA k keys) w = refl

  -- the tallest of a Thresh's children, from a height that was met before them
  figures-height : (c : Context) (xs : Fragments) → AllWellFormed xs → (start : ℕ) →
      suc (heights start (figures_of_all c xs)) ≡ max (suc start) (tallest_of xs)
  figures-height c end w start = omega arith
  figures-height c (x ▹ xs) w start =
      omega (
        arith,
        figure-height c x w.0,
        figures-height c xs w.1 (ext.max start (figures_of c x).tree_height),
        greater start (figures_of c x).tree_height,
      )

pub height-of : HeightOfTree
height-of c x g = ap (λ e. suc e.tree_height) g.figured ∙ figure-height c x.tree g.formed
