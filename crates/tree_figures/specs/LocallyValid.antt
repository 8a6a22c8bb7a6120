-- Every fragment of a tree is locally valid in its context: document 02, R-14, by the figures of the source as they are (`figures`, specs/Rules.antt
-- and specs/Validity.antt). In context 0 False is not valid by itself, since no satisfaction of it is known.
use Rattle.std.specs.Prelude.{Bool, true, ◌&&◌}
use Rattle.contexts.specs.declared.Context.{Context}
use Rattle.figures.specs.Validity.{check_local_validity}
use Rattle.trees.specs.Fragment.{Fragment, Fragments, end, ◌▹◌, False, True, PkK, PkH, Lock, Hash}
use Rattle.trees.specs.Fragment.{Alt, Swap, Check, DupIf, Verify, NonZero, ZeroNotEqual}
use Rattle.trees.specs.Fragment.{AndB, AndV, OrB, OrD, OrC, OrI, AndOr, Thresh, Multi, MultiA}
use Rattle.walk.specs.Heads.{head_of}
use Rattle.definition_laws.specs.Laws.{figures_of}

-- whether something holds of a fragment and of every fragment in it
unfoldable mutual
  pub everywhere : (Fragment → Bool) → Fragment → Bool
  everywhere p False = p False
  everywhere p True = p True
  everywhere p (PkK n) = p (PkK n)
  everywhere p (PkH n) = p (PkH n)
  everywhere p (Lock kind n) = p (Lock kind n)
  everywhere p (Hash kind n) = p (Hash kind n)
  everywhere p (Alt x) = p (Alt x) && everywhere p x
  everywhere p (Swap x) = p (Swap x) && everywhere p x
  everywhere p (Check x) = p (Check x) && everywhere p x
  everywhere p (DupIf x) = p (DupIf x) && everywhere p x
  everywhere p (Verify x) = p (Verify x) && everywhere p x
  everywhere p (NonZero x) = p (NonZero x) && everywhere p x
  everywhere p (ZeroNotEqual x) = p (ZeroNotEqual x) && everywhere p x
  everywhere p (AndB x y) = p (AndB x y) && (everywhere p x && everywhere p y)
  everywhere p (AndV x y) = p (AndV x y) && (everywhere p x && everywhere p y)
  everywhere p (OrB x y) = p (OrB x y) && (everywhere p x && everywhere p y)
  everywhere p (OrD x y) = p (OrD x y) && (everywhere p x && everywhere p y)
  everywhere p (OrC x y) = p (OrC x y) && (everywhere p x && everywhere p y)
  everywhere p (OrI x y) = p (OrI x y) && (everywhere p x && everywhere p y)
  everywhere p (AndOr x y z) = p (AndOr x y z) && (everywhere p x && (everywhere p y && everywhere p z))
  everywhere p (Thresh k xs) = p (Thresh k xs) && everywhere_in p xs
  everywhere p (Multi k keys) = p (Multi k keys)
  everywhere p (MultiA k keys) = p (MultiA k keys)

  pub everywhere_in : (Fragment → Bool) → Fragments → Bool
  everywhere_in p end = true
  everywhere_in p (x ▹ xs) = everywhere p x && everywhere_in p xs

-- a fragment's own figures
abbrev pub valid : Context → Fragment → Bool
valid c f = check_local_validity c (head_of f).kind (figures_of c f)

-- its own and those of every fragment in it
unfoldable pub all_valid : Context → Fragment → Bool
all_valid c f = everywhere (valid c) f
