-- Laws of and, or and at least k.
use mathlib.Core.Bool.{Bool, true, false, ◌&&◌, ◌||◌, false≢true}
use mathlib.Core.List.{List, [], ◌∷◌}
use mathlib.Core.Path.{◌≡◌, refl, sym, ap, ◌∙◌}
use Prim.Native.Nat.{ℕ, suc, ◌+◌, ◌≤◌}
use native.Mathlib.Omega.{arith}
use borrow.Author.Tests.{leb-true, le-leb}
use lib.Dec.{leb}
use lib.ListN.{length}
use Rattle.contexts.specs.Lists.{one}
use Rattle.meaning.specs.Meaning.{count_true, at_least}

pub and-true : (a : Bool) → a && true ≡ a
and-true true = refl
and-true false = refl

pub or-false : (a : Bool) → a || false ≡ a
or-false true = refl
or-false false = refl

pub and_comm : (a b : Bool) → a && b ≡ b && a
and_comm true b = sym (and-true b)
and_comm false true = refl
and_comm false false = refl

pub or_comm : (a b : Bool) → a || b ≡ b || a
or_comm true true = refl
or_comm true false = refl
or_comm false true = refl
or_comm false false = refl

pub and_assoc : (a b c : Bool) → (a && b) && c ≡ a && (b && c)
and_assoc true b c = refl
and_assoc false b c = refl

-- all of some places hold
unfoldable pub all_true : List Bool → Bool
all_true [] = true
all_true (b ∷ bs) = b && all_true bs

-- ---- at least all of them

both_ways : (a b : Bool) → (a ≡ true → b ≡ true) → (b ≡ true → a ≡ true) → a ≡ b
both_ways true b f g = sym (f refl)
both_ways false true f g = g refl
both_ways false false f g = refl

count-few : (bs : List Bool) → count_true bs ≤ length bs
unfolding count_true
count-few [] = omega arith
count-few (true ∷ bs) = let h = count-few bs in omega (arith, h)
count-few (false ∷ bs) = let h = count-few bs in omega (arith, h)

all-counted : (bs : List Bool) → all_true bs ≡ true → length bs ≤ count_true bs
unfolding all_true count_true
all-counted [] h = omega arith
all-counted (true ∷ bs) h = let i = all-counted bs h in omega (arith, i)
all-counted (false ∷ bs) h = absurd (false≢true h)

counted-all : (bs : List Bool) → length bs ≤ count_true bs → all_true bs ≡ true
unfolding all_true count_true
counted-all [] h = refl
counted-all (true ∷ bs) h = counted-all bs (omega (arith, h))
counted-all (false ∷ bs) h = let i = count-few bs in absurd (omega (arith, h, i))

pub at-least-all : (bs : List Bool) → at_least (length bs) bs ≡ all_true bs
at-least-all bs = both_ways (at_least (length bs) bs) (all_true bs) (λ h. counted-all bs (leb-true _ _ h)) (λ h. le-leb _ _ (all-counted bs h))
