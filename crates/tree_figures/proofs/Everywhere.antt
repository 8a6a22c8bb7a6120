-- Every fragment of a tree is locally valid exactly if each record's is. Assumes nothing.
use Prim.Native.Nat.{ℕ, zero, suc, ◌<◌}
use mathlib.Core.Bool.{Bool, true, false, ◌&&◌}
use mathlib.Core.List.{List}
use mathlib.Core.Path.{◌≡◌, refl, sym, ap, subst, ◌∙◌}
use native.Mathlib.Omega.{arith}
use borrow.Author.Tests.{eqb-true, eqb-false}
use lib.Dec.{eqb}
use Rattle.contexts.specs.declared.Context.{Context}
use Rattle.trees.specs.Fragment.{Fragment, Fragments, end, ◌▹◌, to_list, False, True, PkK, PkH, Lock, Hash}
use Rattle.trees.specs.Fragment.{Alt, Swap, Check, DupIf, Verify, NonZero, ZeroNotEqual}
use Rattle.trees.specs.Fragment.{AndB, AndV, OrB, OrD, OrC, OrI, AndOr, Thresh, Multi, MultiA}
use Rattle.walk.specs.TreeRecords.{fragment_at, TreeRecords}
use Rattle.walk.specs.Heads.{children_in}
use Rattle.walk.specs.Folds.{every, over_records, Gathers, OwnAndChildren}
use Rattle.walk.proofs.FoldLaws.{over-records}
use Rattle.tree_figures.specs.LocallyValid.{everywhere, everywhere_in, valid, all_valid}

and-true : (a : Bool) → a && true ≡ a
and-true true = refl
and-true false = refl

and-false : (a : Bool) → a && false ≡ false
and-false true = refl
and-false false = refl

and_assoc : (a b c : Bool) → (a && b) && c ≡ a && (b && c)
and_assoc true b c = refl
and_assoc false b c = refl

and_comm : (a b : Bool) → a && b ≡ b && a
and_comm true true = refl
and_comm true false = refl
and_comm false true = refl
and_comm false false = refl

and-gathers : Gathers ◌&&◌ true
and-gathers = record { right-unit = and-true; assoc = and_assoc; comm = and_comm }

module _ (p : Fragment → Bool) where
  each-list : (xs : Fragments) → everywhere_in p xs ≡ every ◌&&◌ true (everywhere p) (to_list xs)
  unfolding everywhere every to_list
  each-list end = refl
  each-list (x ▹ xs) = ap (λ (b : Bool). everywhere p x && b) (each-list xs)

  leaf : (b : Bool) → b ≡ b && true
  leaf b = sym (and-true b)

  one : (b : Bool) (x : Fragment) → b && everywhere p x ≡ b && (everywhere p x && true)
  one b x = ap (λ (y : Bool). b && y) (leaf (everywhere p x))

  two : (b : Bool) (x y : Fragment) → b && (everywhere p x && everywhere p y) ≡ b && (everywhere p x && (everywhere p y && true))
  two b x y = ap (λ (z : Bool). b && z) (one (everywhere p x) y)

  pub splits : OwnAndChildren ◌&&◌ true (everywhere p) p
  unfolding everywhere children_in every
  splits False = leaf (p False)
  splits True = leaf (p True)
  splits (PkK n) = leaf (p (PkK n))
  splits (PkH n) = leaf (p (PkH n))
  splits (Lock kind n) = leaf (p (Lock kind n))
  splits (Hash kind n) = leaf (p (Hash kind n))
  splits (Alt x) = one (p (Alt x)) x
  splits (Swap x) = one (p (Swap x)) x
  splits (Check x) = one (p (Check x)) x
  splits (DupIf x) = one (p (DupIf x)) x
  splits (Verify x) = one (p (Verify x)) x
  splits (NonZero x) = one (p (NonZero x)) x
  splits (ZeroNotEqual x) = one (p (ZeroNotEqual x)) x
  splits (AndB x y) = two (p (AndB x y)) x y
  splits (AndV x y) = two (p (AndV x y)) x y
  splits (OrB x y) = two (p (OrB x y)) x y
  splits (OrD x y) = two (p (OrD x y)) x y
  splits (OrC x y) = two (p (OrC x y)) x y
  splits (OrI x y) = two (p (OrI x y)) x y
  splits (AndOr x y z) = ap (λ (b : Bool). p (AndOr x y z) && b) (two (everywhere p x) y z)
  splits (Thresh k xs) = ap (λ (b : Bool). p (Thresh k xs) && b) (each-list xs)
  splits (Multi k keys) = leaf (p (Multi k keys))
  splits (MultiA k keys) = leaf (p (MultiA k keys))

  module _ (tree : List ℕ) where
    all-so-far : (n : ℕ) → ((i : ℕ) → i < n → p (fragment_at tree i) ≡ true) → over_records ◌&&◌ true p tree n ≡ true
    unfolding over_records
    all-so-far zero h = refl
    all-so-far (suc n) h =
        let before = all-so-far n (λ i l. h i (omega arith)) in
        let last = h n (omega arith) in
        rw (before, last)

    one-not : (n i : ℕ) → i < n → p (fragment_at tree i) ≡ false → over_records ◌&&◌ true p tree n ≡ false
    unfolding over_records
    one-not zero i l h = absurd (omega arith)
    one-not (suc n) i l h = by_place (eqb i n) refl (one-not n i)
      where
        by_place : (b : Bool) → eqb i n ≡ b → (i < n → p (fragment_at tree i) ≡ false → over_records ◌&&◌ true p tree n ≡ false)
            → over_records ◌&&◌ true p tree n && p (fragment_at tree n) ≡ false
        by_place true e rest =
            let last : p (fragment_at tree n) ≡ false = subst (λ (j : ℕ). p (fragment_at tree j) ≡ false) (eqb-true i n e) h in
            ap (λ (b : Bool). over_records ◌&&◌ true p tree n && b) last ∙ and-false (over_records ◌&&◌ true p tree n)
        by_place false e rest =
            let before = rest (omega (arith, eqb-false i n e)) h in
            ap (λ (b : Bool). b && p (fragment_at tree n)) before

module _ (c : Context) where
  pub all-records : {tree : List ℕ} {f : Fragment} (r : TreeRecords tree f) → ((i : ℕ) → i < r.count → valid c (fragment_at tree i) ≡ true)
      → true ≡ all_valid c f
  unfolding all_valid
  all-records {tree} r h =
      sym (over-records ◌&&◌ true and-gathers (everywhere (valid c)) (valid c) (splits (valid c)) r ∙ all-so-far (valid c) tree r.count h)

  pub somewhere-not : {tree : List ℕ} {f : Fragment} (r : TreeRecords tree f) (i : ℕ) → i < r.count → valid c (fragment_at tree i) ≡ false
      → false ≡ all_valid c f
  unfolding all_valid
  somewhere-not {tree} r i l h =
      sym (over-records ◌&&◌ true and-gathers (everywhere (valid c)) (valid c) (splits (valid c)) r ∙ one-not (valid c) tree r.count i l h)
