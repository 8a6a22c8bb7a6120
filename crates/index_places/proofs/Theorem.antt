-- The laws of specs/Laws.antt. Assumes nothing.
use Prim.Native.Nat.{ℕ, suc, ◌+◌, ◌-◌, ◌≤◌, ◌<◌}
use mathlib.Core.Bool.{Bool, false}
use mathlib.Core.List.{List}
use mathlib.Core.Path.{◌≡◌, refl}
use native.Mathlib.Omega.{arith}
use Rattle.contexts.specs.declared.Context.{Context}
use Rattle.trees.specs.Fragment.{Fragment}
use Rattle.walk.specs.TreeRecords.{TreeRecords}
use Rattle.index_places.specs.Sizes.{size_of}
use Rattle.index_places.specs.Places.{kid, ahead_at, Stands, root, child, Holds}
use Rattle.index_places.specs.Laws.{OnePlace, OwnBytes, WholeScript, InOrder, MergedVerify, Nested, NonePast}
use Rattle.index_places.proofs.Stands as Stands
use Rattle.index_places.proofs.Bytes as Bytes

pub one_place : OnePlace
one_place c tree f r i h =
    let s = Stands.stands-somewhere c r i h in
    (s.first, s.stands, λ first t. Stands.stands-once c r s.stands t)

pub own-bytes : OwnBytes
own-bytes c t tree f r i first has s = Bytes.own-bytes c t r i first has s

pub whole-script : WholeScript
whole-script c t tree f r has =
    let last : suc (r.count - 1) ≡ r.count = omega (arith, r.any) in
    (root last refl, Bytes.whole-script c t r has)

pub in_order : InOrder
in_order c tree f r p at s j h = (
  child {i = kid tree p j} {first = at + ahead_at c tree false p j} p at j s h refl refl,
  Stands.child-within c r s j h,
  λ m l. let grows = Stands.ahead-grows c r false p (suc j) m (omega arith) in omega (arith, grows, Stands.child-before-next c r p j),
)

pub merged-verify : MergedVerify
unfolding size_of
merged-verify c x = omega arith

pub nested : Nested
nested c tree f r at i k h a b = Stands.innermost c r at i k h a b

pub none-past : NonePast
none-past c tree f r at i h has = omega (arith, has.to, Stands.in-script c r has.stands)
