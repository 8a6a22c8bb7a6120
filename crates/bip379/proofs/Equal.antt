-- Two rows of letters are the same: a test that computes, and what it shows. Assumes nothing.
use mathlib.Core.Bool.{Bool, true, false, not, ◌&&◌}
use Rattle.std.specs.Prelude.{Option, None, Some}
use mathlib.Core.Path.{◌≡◌, refl, subst}
use lib.Dec.{T}
use lib.Ieee.Fits.{and_i, and_l, and_r}
use Rattle.bip379.specs.Correctness.{Base, B, «V», K, W, Correct}
use Rattle.bip379.specs.Malleability.{Malleable}
use Rattle.bip379.specs.Bip379.{Letters}

abbrev pub eq_bool : Bool → Bool → Bool
eq_bool true b = b
eq_bool false b = not b

pub bool-equal : (a b : Bool) → T (eq_bool a b) → a ≡ b
bool-equal true true h = refl
bool-equal true false h = absurd h
bool-equal false true h = absurd h
bool-equal false false h = refl

abbrev pub eq_base : Base → Base → Bool
eq_base B b = elim b [ B ↦ true | «V» ↦ false | K ↦ false | W ↦ false ]
eq_base «V» b = elim b [ B ↦ false | «V» ↦ true | K ↦ false | W ↦ false ]
eq_base K b = elim b [ B ↦ false | «V» ↦ false | K ↦ true | W ↦ false ]
eq_base W b = elim b [ B ↦ false | «V» ↦ false | K ↦ false | W ↦ true ]

base-equal : (a b : Base) → T (eq_base a b) → a ≡ b
base-equal B B h = refl
base-equal B «V» h = absurd h
base-equal B K h = absurd h
base-equal B W h = absurd h
base-equal «V» B h = absurd h
base-equal «V» «V» h = refl
base-equal «V» K h = absurd h
base-equal «V» W h = absurd h
base-equal K B h = absurd h
base-equal K «V» h = absurd h
base-equal K K h = refl
base-equal K W h = absurd h
base-equal W B h = absurd h
base-equal W «V» h = absurd h
base-equal W K h = absurd h
base-equal W W h = refl

abbrev pub eq_correct : Correct → Correct → Bool
eq_correct X Y =
    eq_base X.base Y.base
    && (eq_bool X.z Y.z
    && (eq_bool X.o Y.o && (eq_bool X.n Y.n && (eq_bool X.d Y.d && eq_bool X.u Y.u))))

pub correct-equal : (X Y : Correct) → T (eq_correct X Y) → X ≡ Y
correct-equal X Y h =
    let h₁ = and_r (eq_base X.base Y.base) _ h in
    let h₂ = and_r (eq_bool X.z Y.z) _ h₁ in
    let h₃ = and_r (eq_bool X.o Y.o) _ h₂ in
    let h₄ = and_r (eq_bool X.n Y.n) _ h₃ in
    let base = base-equal X.base Y.base (and_l (eq_base X.base Y.base) _ h) in
    let z = bool-equal X.z Y.z (and_l (eq_bool X.z Y.z) _ h₁) in
    let o = bool-equal X.o Y.o (and_l (eq_bool X.o Y.o) _ h₂) in
    let n = bool-equal X.n Y.n (and_l (eq_bool X.n Y.n) _ h₃) in
    let d = bool-equal X.d Y.d (and_l (eq_bool X.d Y.d) _ h₄) in
    let u = bool-equal X.u Y.u (and_r (eq_bool X.d Y.d) _ h₄) in
    λ i. record { base = base i; z = z i; o = o i; n = n i; d = d i; u = u i }

abbrev pub eq_malleable : Malleable → Malleable → Bool
eq_malleable X Y = eq_bool X.m Y.m && (eq_bool X.s Y.s && (eq_bool X.f Y.f && eq_bool X.e Y.e))

pub malleable-equal : (X Y : Malleable) → T (eq_malleable X Y) → X ≡ Y
malleable-equal X Y h =
    let h₁ = and_r (eq_bool X.m Y.m) _ h in
    let h₂ = and_r (eq_bool X.s Y.s) _ h₁ in
    let m = bool-equal X.m Y.m (and_l (eq_bool X.m Y.m) _ h) in
    let s = bool-equal X.s Y.s (and_l (eq_bool X.s Y.s) _ h₁) in
    let f = bool-equal X.f Y.f (and_l (eq_bool X.f Y.f) _ h₂) in
    let e = bool-equal X.e Y.e (and_r (eq_bool X.f Y.f) _ h₂) in
    λ i. record { m = m i; s = s i; f = f i; e = e i }

abbrev pub eq_letters : Option Letters → Option Letters → Bool
eq_letters (Some X) (Some Y) = eq_correct X.corr Y.corr && eq_malleable X.mall Y.mall
eq_letters (Some X) None = false
eq_letters None (Some Y) = false
eq_letters None None = true

pub letters-equal : (a b : Option Letters) → T (eq_letters a b) → a ≡ b
letters-equal (Some X) (Some Y) h =
    let c = correct-equal X.corr Y.corr (and_l (eq_correct X.corr Y.corr) _ h) in
    let m = malleable-equal X.mall Y.mall (and_r (eq_correct X.corr Y.corr) _ h) in
    λ i. Some (record { corr = c i; mall = m i })
letters-equal (Some X) None h = absurd h
letters-equal None (Some Y) h = absurd h
letters-equal None None h = refl

bool-refl : (a : Bool) → T (eq_bool a a)
bool-refl true = tt
bool-refl false = tt

base-refl : (a : Base) → T (eq_base a a)
base-refl B = tt
base-refl «V» = tt
base-refl K = tt
base-refl W = tt

correct-refl : (X : Correct) → T (eq_correct X X)
correct-refl X =
    and_i (eq_base X.base X.base) _ (base-refl X.base)
    (and_i (eq_bool X.z X.z) _ (bool-refl X.z)
    (and_i (eq_bool X.o X.o) _ (bool-refl X.o)
    (and_i (eq_bool X.n X.n) _ (bool-refl X.n)
    (and_i (eq_bool X.d X.d) (eq_bool X.u X.u) (bool-refl X.d) (bool-refl X.u)))))

malleable-refl : (X : Malleable) → T (eq_malleable X X)
malleable-refl X =
    and_i (eq_bool X.m X.m) _ (bool-refl X.m)
    (and_i (eq_bool X.s X.s) _ (bool-refl X.s)
    (and_i (eq_bool X.f X.f) (eq_bool X.e X.e) (bool-refl X.f) (bool-refl X.e)))

letters-refl : (a : Option Letters) → T (eq_letters a a)
letters-refl (Some X) = and_i (eq_correct X.corr X.corr) _ (correct-refl X.corr) (malleable-refl X.mall)
letters-refl None = tt

pub equal-letters : (a b : Option Letters) → a ≡ b → T (eq_letters a b)
equal-letters a b p = subst (λ (x : Option Letters). T (eq_letters a x)) p (letters-refl a)
