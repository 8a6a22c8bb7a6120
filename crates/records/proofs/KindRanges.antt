-- The table of kinds, a range of kinds at a time. Assumes nothing.
use mathlib.Core.Path.{◌≡◌, refl, sym}
use mathlib.Core.Bool.{Bool, true, false}
use mathlib.Core.List.{List, [], ◌∷◌}
use Rattle.std.specs.Prelude.{Option, None, Some}
use Prim.Native.Nat.{ℕ, ◌<◌, ◌≤◌}
use native.Mathlib.Omega.{arith}
use borrow.Author.Tests.{leb-true, ltb-true, le-leb, lt-leb}
use lib.Dec.{leb, ltb}
use Rattle.records.specs.Numbers.{between}
use Rattle.records.specs.Shapes.{Row, kinds, rows, this_or, look_up, shape_of}
use Rattle.records.specs.declared.Shape.{Shape}

-- by whether a range of kinds starts in a row or after its first kind, ends by its last kind, is before it, is after it
abbrev pub decide : (starts ends before after : Bool) → Shape → Option (Option Shape) → Option (Option Shape)
decide true true before after shape others = Some (Some shape)
decide true false before true shape others = others
decide true false before false shape others = None
decide false ends true after shape others = others
decide false ends false after shape others = None

-- what all kinds of a range have, if no row parts them
abbrev pub look_up_range : List Row → (low high : ℕ) → Option (Option Shape)
look_up_range [] low high = Some None
look_up_range (kinds first last shape ∷ others) low high =
    decide (leb first low) (leb high last) (ltb high first) (ltb last low) shape (look_up_range others low high)

each-kind : (rs : List Row) (low high : ℕ) {o : Option Shape} → look_up_range rs low high ≡ Some o
    → (kind : ℕ) → low ≤ kind → kind ≤ high → look_up rs kind ≡ o
unfolding look_up
each-kind [] low high {o} e kind l h = cc
each-kind (kinds first last shape ∷ others) low high {o} e kind l h =
    by_tests (leb first low) (leb high last) (ltb high first) (ltb last low) refl refl refl refl
    (λ e. each-kind others low high e kind l h) e
  where
    apart : between first last kind ≡ false → look_up others kind ≡ o → this_or (between first last kind) shape (look_up others kind) ≡ o
    apart miss e = rw miss e

    by_tests : (starts ends before after : Bool) → leb first low ≡ starts → leb high last ≡ ends → ltb high first ≡ before
        → ltb last low ≡ after → (look_up_range others low high ≡ Some o → look_up others kind ≡ o)
        → decide starts ends before after shape (look_up_range others low high) ≡ Some o
        → this_or (between first last kind) shape (look_up others kind) ≡ o
    by_tests true true before after s n b a rec e =
        let from : first ≤ kind = omega (arith, leb-true first low s) in
        let to : kind ≤ last = omega (arith, leb-true high last n) in
        rw (le-leb first kind from, le-leb kind last to) (cc)
    by_tests true false before true s n b a rec e =
        let from : first ≤ kind = omega (arith, leb-true first low s) in
        let past : last < kind = omega (arith, ltb-true last low a) in
        apart (rw (le-leb first kind from, lt-leb kind last past)) (rec e)
    by_tests true false before false s n b a rec e = cc
    by_tests false ends true after s n b a rec e =
        let under : kind < first = omega (arith, ltb-true high first b) in
        apart (rw (lt-leb first kind under)) (rec e)
    by_tests false ends false after s n b a rec e = cc

-- the shape of every kind in a range: `shapes-in 42 48 refl kind` says that the kinds 42 to 48 have one child
pub shapes-in : (low high : ℕ) {o : Option Shape} → look_up_range rows low high ≡ Some o
    → (kind : ℕ) → low ≤ kind → kind ≤ high → shape_of kind ≡ o
unfolding shape_of
shapes-in low high e kind l h = each-kind rows low high e kind l h

pub answers-in : (low high : ℕ) {o : Option Shape} → look_up_range rows low high ≡ Some o
    → (kind : ℕ) → low ≤ kind → kind ≤ high → o ≡ shape_of kind
answers-in low high e kind l h = sym (shapes-in low high e kind l h)
