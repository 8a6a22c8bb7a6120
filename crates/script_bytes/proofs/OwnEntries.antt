-- The numbers of a tree are those of its records, each of which is part of the tree once. Assumes nothing.
use Prim.Native.Nat.{ℕ}
use mathlib.Core.Bool.{Bool, true, false, ◌&&◌, and_assoc, and-true}
use mathlib.Core.List.{List, [], ◌∷◌}
use mathlib.Core.Path.{◌≡◌, refl, sym, ap}
use Rattle.contexts.specs.declared.Context.{Context}
use Rattle.trees.specs.Fragment.{Fragment, Fragments, end, ◌▹◌, to_list, False, True, PkK, PkH, Lock, Hash}
use Rattle.trees.specs.Fragment.{Alt, Swap, Check, DupIf, Verify, NonZero, ZeroNotEqual}
use Rattle.trees.specs.Fragment.{AndB, AndV, OrB, OrD, OrC, OrI, AndOr, Thresh, Multi, MultiA}
use Rattle.walk.specs.TreeRecords.{TreeRecords}
use Rattle.walk.specs.Heads.{children_in}
use Rattle.walk.specs.Folds.{every, Gathers, OwnAndChildren}
use Rattle.walk.proofs.FoldLaws.{over-records}
use Rattle.script_bytes.specs.Tables.{Tables}
use Rattle.script_bytes.specs.ScriptOf.{has_entries, all_have_entries}
use Rattle.script_bytes.specs.Entries.{own_entries, entries_below}

and_comm : (x y : Bool) → x && y ≡ y && x
and_comm true true = refl
and_comm true false = refl
and_comm false true = refl
and_comm false false = refl

gathers : Gathers ◌&&◌ true
gathers = record { right-unit = and-true; assoc = and_assoc; comm = and_comm }

module _ (c : Context) (t : Tables) where
  -- ---- a fragment has its own numbers and those of its children

  thresh-entries : (xs : Fragments) → all_have_entries c t xs ≡ every ◌&&◌ true (has_entries c t) (to_list xs)
  unfolding all_have_entries to_list every
  thresh-entries end = refl
  thresh-entries (x ▹ xs) = rw (thresh-entries xs)

  two-entries : (x y : Fragment) → has_entries c t x && has_entries c t y ≡ every ◌&&◌ true (has_entries c t) (x ∷ y ∷ [])
  unfolding every
  two-entries x y = rw (and-true (has_entries c t y))

  pub own-and-children : OwnAndChildren ◌&&◌ true (has_entries c t) (own_entries c t)
  unfolding has_entries own_entries children_in every
  own-and-children False = refl
  own-and-children True = refl
  own-and-children (PkK i) = sym (and-true _)
  own-and-children (PkH i) = sym (and-true _)
  own-and-children (Lock kind n) = refl
  own-and-children (Hash kind i) = sym (and-true _)
  own-and-children (Alt x) = sym (and-true _)
  own-and-children (Swap x) = sym (and-true _)
  own-and-children (Check x) = sym (and-true _)
  own-and-children (DupIf x) = sym (and-true _)
  own-and-children (Verify x) = sym (and-true _)
  own-and-children (NonZero x) = sym (and-true _)
  own-and-children (ZeroNotEqual x) = sym (and-true _)
  own-and-children (AndB x y) = two-entries x y
  own-and-children (AndV x y) = two-entries x y
  own-and-children (OrB x y) = two-entries x y
  own-and-children (OrD x y) = two-entries x y
  own-and-children (OrC x y) = two-entries x y
  own-and-children (OrI x y) = two-entries x y
  own-and-children (AndOr x y z) = ap (λ (b : Bool). has_entries c t x && b) (two-entries y z)
  own-and-children (Thresh k xs) = thresh-entries xs
  own-and-children (Multi k keys) = sym (and-true _)
  own-and-children (MultiA k keys) = sym (and-true _)

  -- the numbers of a tree are those of its records
  pub of-records : {tree : List ℕ} {f : Fragment} (r : TreeRecords tree f) → has_entries c t f ≡ entries_below c t tree r.count
  of-records r = over-records ◌&&◌ true gathers (has_entries c t) (own_entries c t) own-and-children r
