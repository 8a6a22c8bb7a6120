-- The satisfaction table as two columns of sets: a fragment's ways are what its row says of the ways of its children. Assumes nothing.
use Prim.Native.Nat.{suc}
use mathlib.Core.List.{[], ◌∷◌}
use mathlib.Core.Logic.{◌⊎◌, inl, inr}
use lib.ListN.{length, replicate}
use Rattle.trees.specs.Fragment.{Fragment, False, True, PkK, PkH, Lock, Hash}
use Rattle.trees.specs.Fragment.{Alt, Swap, Check, DupIf, Verify, NonZero, ZeroNotEqual}
use Rattle.trees.specs.Fragment.{AndB, AndV, OrB, OrD, OrC, OrI, AndOr, Thresh, Multi, MultiA}
use Rattle.witness_ways.specs.Elements.{Witness, signature, key, preimage, empty, one}
use Rattle.witness_ways.specs.Ways as way
use Rattle.witness_ways.specs.Ways.{Satisfies, Dissatisfies, Exactly, Picked, Placed}
use Rattle.witness_ways.proofs.Spans.{Joined, joined, Only, only}

abbrev pub Set : Type 1
Set = Witness → Type 0

abbrev pub nowhere : Set
nowhere w = ⊥

abbrev pub either : Set → Set → Set
either P Q w = P w ⊎ Q w

-- the right column
abbrev pub sat_row : Fragment → Set
sat_row False = nowhere
sat_row True = Only []
sat_row (PkK n) = Only (signature n ∷ [])
sat_row (PkH n) = Only (signature n ∷ key n ∷ [])
sat_row (Lock kind n) = Only []
sat_row (Hash kind n) = Only (preimage kind n ∷ [])
sat_row (Alt x) = Satisfies x
sat_row (Swap x) = Satisfies x
sat_row (Check x) = Satisfies x
sat_row (DupIf x) = Joined (Satisfies x) (Only (one ∷ []))
sat_row (Verify x) = Satisfies x
sat_row (NonZero x) = Satisfies x
sat_row (ZeroNotEqual x) = Satisfies x
sat_row (AndB x y) = Joined (Satisfies y) (Satisfies x)
sat_row (AndV x y) = Joined (Satisfies y) (Satisfies x)
sat_row (OrB x z) = either (Joined (Dissatisfies z) (Satisfies x)) (Joined (Satisfies z) (Dissatisfies x))
sat_row (OrD x z) = either (Satisfies x) (Joined (Satisfies z) (Dissatisfies x))
sat_row (OrC x z) = either (Satisfies x) (Joined (Satisfies z) (Dissatisfies x))
sat_row (OrI x z) = either (Joined (Satisfies x) (Only (one ∷ []))) (Joined (Satisfies z) (Only (empty ∷ [])))
sat_row (AndOr x y z) = either (Joined (Satisfies y) (Satisfies x)) (Joined (Satisfies z) (Dissatisfies x))
sat_row (Thresh k xs) = Exactly k xs
sat_row (Multi k keys) = Joined (Only (empty ∷ [])) (Picked k keys)
sat_row (MultiA k keys) = Placed k keys

pub sat_row-from : {f : Fragment} (w : Witness) → Satisfies f w → sat_row f w
sat_row-from w way.true = only
sat_row-from w (way.pk-k n) = only
sat_row-from w (way.pk-h n) = only
sat_row-from w (way.lock kind n) = only
sat_row-from w (way.hash kind n) = only
sat_row-from w (way.alt p) = p
sat_row-from w (way.swap p) = p
sat_row-from w (way.check p) = p
sat_row-from w (way.dup-if p) = joined p only
sat_row-from w (way.verify p) = p
sat_row-from w (way.non_zero p) = p
sat_row-from w (way.zero-not-equal p) = p
sat_row-from w (way.and-b p q) = joined q p
sat_row-from w (way.and-v p q) = joined q p
sat_row-from w (way.or-b-x p q) = inl (joined q p)
sat_row-from w (way.or-b-z p q) = inr (joined q p)
sat_row-from w (way.or-d-x z p) = inl p
sat_row-from w (way.or-d-z p q) = inr (joined q p)
sat_row-from w (way.or-c-x z p) = inl p
sat_row-from w (way.or-c-z p q) = inr (joined q p)
sat_row-from w (way.or-i-x z p) = inl (joined p only)
sat_row-from w (way.or-i-z x p) = inr (joined p only)
sat_row-from w (way.and-or-y z p q) = inl (joined q p)
sat_row-from w (way.and-or-z y p q) = inr (joined q p)
sat_row-from w (way.thresh k p) = p
sat_row-from w (way.multi p) = joined only p
sat_row-from w (way.multi-a p) = p

pub sat_row-to : (f : Fragment) (w : Witness) → sat_row f w → Satisfies f w
sat_row-to False w p = absurd p
sat_row-to True w only = way.true
sat_row-to (PkK n) w only = way.pk-k n
sat_row-to (PkH n) w only = way.pk-h n
sat_row-to (Lock kind n) w only = way.lock kind n
sat_row-to (Hash kind n) w only = way.hash kind n
sat_row-to (Alt x) w p = way.alt p
sat_row-to (Swap x) w p = way.swap p
sat_row-to (Check x) w p = way.check p
sat_row-to (DupIf x) w (joined p only) = way.dup-if p
sat_row-to (Verify x) w p = way.verify p
sat_row-to (NonZero x) w p = way.non_zero p
sat_row-to (ZeroNotEqual x) w p = way.zero-not-equal p
sat_row-to (AndB x y) w (joined q p) = way.and-b p q
sat_row-to (AndV x y) w (joined q p) = way.and-v p q
sat_row-to (OrB x z) w (inl (joined q p)) = way.or-b-x p q
sat_row-to (OrB x z) w (inr (joined q p)) = way.or-b-z p q
sat_row-to (OrD x z) w (inl p) = way.or-d-x z p
sat_row-to (OrD x z) w (inr (joined q p)) = way.or-d-z p q
sat_row-to (OrC x z) w (inl p) = way.or-c-x z p
sat_row-to (OrC x z) w (inr (joined q p)) = way.or-c-z p q
sat_row-to (OrI x z) w (inl (joined p only)) = way.or-i-x z p
sat_row-to (OrI x z) w (inr (joined p only)) = way.or-i-z x p
sat_row-to (AndOr x y z) w (inl (joined q p)) = way.and-or-y z p q
sat_row-to (AndOr x y z) w (inr (joined q p)) = way.and-or-z y p q
sat_row-to (Thresh k xs) w p = way.thresh k p
sat_row-to (Multi k keys) w (joined only p) = way.multi p
sat_row-to (MultiA k keys) w p = way.multi-a p

-- the left column
abbrev pub dissat_row : Fragment → Set
dissat_row False = Only []
dissat_row True = nowhere
dissat_row (PkK n) = Only (empty ∷ [])
dissat_row (PkH n) = Only (empty ∷ key n ∷ [])
dissat_row (Lock kind n) = nowhere
dissat_row (Hash kind n) = nowhere
dissat_row (Alt x) = Dissatisfies x
dissat_row (Swap x) = Dissatisfies x
dissat_row (Check x) = Dissatisfies x
dissat_row (DupIf x) = Only (empty ∷ [])
dissat_row (Verify x) = nowhere
dissat_row (NonZero x) = Only (empty ∷ [])
dissat_row (ZeroNotEqual x) = Dissatisfies x
dissat_row (AndB x y) = Joined (Dissatisfies y) (Dissatisfies x)
dissat_row (AndV x y) = nowhere
dissat_row (OrB x z) = Joined (Dissatisfies z) (Dissatisfies x)
dissat_row (OrD x z) = Joined (Dissatisfies z) (Dissatisfies x)
dissat_row (OrC x z) = nowhere
dissat_row (OrI x z) = either (Joined (Dissatisfies x) (Only (one ∷ []))) (Joined (Dissatisfies z) (Only (empty ∷ [])))
dissat_row (AndOr x y z) = Joined (Dissatisfies z) (Dissatisfies x)
dissat_row (Thresh k xs) = Exactly 0 xs
dissat_row (Multi k keys) = Only (replicate (suc k) empty)
dissat_row (MultiA k keys) = Only (replicate (length keys) empty)

pub dissat_row-from : {f : Fragment} (w : Witness) → Dissatisfies f w → dissat_row f w
dissat_row-from w way.false = only
dissat_row-from w (way.no-pk-k n) = only
dissat_row-from w (way.no-pk-h n) = only
dissat_row-from w (way.no-alt p) = p
dissat_row-from w (way.no-swap p) = p
dissat_row-from w (way.no-check p) = p
dissat_row-from w (way.no-dup-if x) = only
dissat_row-from w (way.no-non-zero x) = only
dissat_row-from w (way.no-zero-not-equal p) = p
dissat_row-from w (way.no-and-b p q) = joined q p
dissat_row-from w (way.no-or-b p q) = joined q p
dissat_row-from w (way.no-or-d p q) = joined q p
dissat_row-from w (way.no-or-i-x z p) = inl (joined p only)
dissat_row-from w (way.no-or-i-z x p) = inr (joined p only)
dissat_row-from w (way.no-and-or y p q) = joined q p
dissat_row-from w (way.no-thresh k p) = p
dissat_row-from w (way.no-multi k keys) = only
dissat_row-from w (way.no-multi-a k keys) = only

pub dissat_row-to : (f : Fragment) (w : Witness) → dissat_row f w → Dissatisfies f w
dissat_row-to False w only = way.false
dissat_row-to True w p = absurd p
dissat_row-to (PkK n) w only = way.no-pk-k n
dissat_row-to (PkH n) w only = way.no-pk-h n
dissat_row-to (Lock kind n) w p = absurd p
dissat_row-to (Hash kind n) w p = absurd p
dissat_row-to (Alt x) w p = way.no-alt p
dissat_row-to (Swap x) w p = way.no-swap p
dissat_row-to (Check x) w p = way.no-check p
dissat_row-to (DupIf x) w only = way.no-dup-if x
dissat_row-to (Verify x) w p = absurd p
dissat_row-to (NonZero x) w only = way.no-non-zero x
dissat_row-to (ZeroNotEqual x) w p = way.no-zero-not-equal p
dissat_row-to (AndB x y) w (joined q p) = way.no-and-b p q
dissat_row-to (AndV x y) w p = absurd p
dissat_row-to (OrB x z) w (joined q p) = way.no-or-b p q
dissat_row-to (OrD x z) w (joined q p) = way.no-or-d p q
dissat_row-to (OrC x z) w p = absurd p
dissat_row-to (OrI x z) w (inl (joined p only)) = way.no-or-i-x z p
dissat_row-to (OrI x z) w (inr (joined p only)) = way.no-or-i-z x p
dissat_row-to (AndOr x y z) w (joined q p) = way.no-and-or y p q
dissat_row-to (Thresh k xs) w p = way.no-thresh k p
dissat_row-to (Multi k keys) w only = way.no-multi k keys
dissat_row-to (MultiA k keys) w only = way.no-multi-a k keys
