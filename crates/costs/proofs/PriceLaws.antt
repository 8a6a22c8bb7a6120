-- The order of costs: total on those that are not refused, transitive, each finite one before never, and the order of the bits. What it is to
-- choose by differences: as by the IEEE difference of the floats. Assumes nothing.
use Rattle.std.proofs.Common.{◌≡◌, ℕ, ◌<◌, ◌≤◌, Bool, true, false, ◌&&◌, T, eqb, ltb, leb, ◌⊎◌, ℤ, sym, refl, ap, ◌∙◌, subst, inl, inr, mod-eq_of_lt, arith, le→leb, leb→le, ltb-false, ltb-true, eqb-true, le-leb, leb-false}
use mathlib.Core.Bool.{false≢true}
use borrow.Author.Tests.{lt-leb, eqb-false}
use lib.Ieee.{Float, nan, inf, fin, binary64, is_nan, fits, to_bits, of_bits, lt, sub, neg, add}
use Rattle.words.specs.Floats.{word_of_float, float_of_word, is_cost}
use Rattle.words.proofs.Floats.{float-again, above-infinity, sign_clear}
use Rattle.costs.specs.Names.{Price, Finite, Never, NotACost}
use Rattle.costs.specs.Arithmetic.{◌⊖◌}
use Rattle.costs.specs.Price.{price_of, is_price, at_most, excess, cost_bits, never_flag}

-- ---- the order

pub at-most-total : (x y : Price) → is_price x ≡ true → is_price y ≡ true → T (at_most x y) ⊎ T (at_most y x)
at-most-total (Finite a) (Finite b) h k = by-test (leb (word_of_float a) (word_of_float b)) refl
  where
    by-test : (t : Bool) → leb (word_of_float a) (word_of_float b) ≡ t
        → T (leb (word_of_float a) (word_of_float b)) ⊎ T (leb (word_of_float b) (word_of_float a))
    by-test true e = inl (rw e tt)
    by-test false e = inr (le→leb (word_of_float b) (word_of_float a) (omega (arith, leb-false (word_of_float a) (word_of_float b) e)))
at-most-total (Finite a) Never h k = inl tt
at-most-total (Finite a) NotACost h k = absurd (false≢true k)
at-most-total Never (Finite b) h k = inr tt
at-most-total Never Never h k = inl tt
at-most-total Never NotACost h k = absurd (false≢true k)
at-most-total NotACost y h k = absurd (false≢true h)

pub at-most-trans : (x y z : Price) → T (at_most x y) → T (at_most y z) → T (at_most x z)
at-most-trans (Finite a) (Finite b) (Finite c) h k =
    le→leb (word_of_float a) (word_of_float c)
    (omega (arith, leb→le (word_of_float a) (word_of_float b) h, leb→le (word_of_float b) (word_of_float c) k))
at-most-trans (Finite a) (Finite b) Never h k = tt
at-most-trans (Finite a) (Finite b) NotACost h k = k
at-most-trans (Finite a) Never (Finite c) h k = absurd k
at-most-trans (Finite a) Never Never h k = tt
at-most-trans (Finite a) Never NotACost h k = k
at-most-trans (Finite a) NotACost z h k = absurd h
at-most-trans Never (Finite b) z h k = absurd h
at-most-trans Never Never z h k = k
at-most-trans Never NotACost z h k = absurd h
at-most-trans NotACost y z h k = absurd h

pub finite-before-never : (a : Float) → (at_most (Finite a) Never ≡ true) × (at_most Never (Finite a) ≡ false)
finite-before-never a = (refl, refl)

-- ---- it is the order of the bits

-- the bits of a finite cost are below those of infinity
below-infinity : (m : ℕ) (e : ℤ) → T (fits binary64 (fin false m e)) → word_of_float (fin false m e) < 0x7ff0_0000_0000_0000
unfolding is_nan lt of_bits
below-infinity m e f = by_place (compare_to (word_of_float (fin false m e)))
  where
    again : float_of_word (word_of_float (fin false m e)) ≡ fin false m e
    again = float-again (fin false m e) f

    positive : word_of_float (fin false m e) < 0x8000_0000_0000_0000
    positive = ltb-true (word_of_float (fin false m e)) 0x8000_0000_0000_0000 (sign_clear (fin false m e) f tt)

    no_nan : nan ≡ fin false m e → ⊥
    no_nan h = subst (λ (x : Float). T (is_nan x)) h tt

    no-inf : inf false ≡ fin false m e → ⊥
    no-inf h = false≢true (ap (λ (x : Float). lt x (inf false)) h)

    compare_to : (w : ℕ) → (w < 0x7ff0_0000_0000_0000) ⊎ ((w ≡ 0x7ff0_0000_0000_0000) ⊎ (0x7ff0_0000_0000_0000 < w))
    compare_to w = split w (ltb w 0x7ff0_0000_0000_0000) (eqb w 0x7ff0_0000_0000_0000) refl refl
      where
        split : (w : ℕ) (s t : Bool) → ltb w 0x7ff0_0000_0000_0000 ≡ s → eqb w 0x7ff0_0000_0000_0000 ≡ t
            → (w < 0x7ff0_0000_0000_0000) ⊎ ((w ≡ 0x7ff0_0000_0000_0000) ⊎ (0x7ff0_0000_0000_0000 < w))
        split w true t p q = inl (ltb-true w 0x7ff0_0000_0000_0000 p)
        split w false true p q = inr (inl (eqb-true w 0x7ff0_0000_0000_0000 q))
        split w false false p q =
            inr (inr (between w (ltb-false w 0x7ff0_0000_0000_0000 p) (eqb-false w 0x7ff0_0000_0000_0000 q)))
          where
            between : (w : ℕ) → 0x7ff0_0000_0000_0000 ≤ w → (w ≡ 0x7ff0_0000_0000_0000 → ⊥) → 0x7ff0_0000_0000_0000 < w
            between w h n = omega (arith, h, n)

    by_place : (word_of_float (fin false m e) < 0x7ff0_0000_0000_0000)
        ⊎ ((word_of_float (fin false m e) ≡ 0x7ff0_0000_0000_0000) ⊎ (0x7ff0_0000_0000_0000 < word_of_float (fin false m e)))
        → word_of_float (fin false m e) < 0x7ff0_0000_0000_0000
    by_place (inl h) = h
    by_place (inr (inl h)) = absurd (no-inf (ap float_of_word (sym h) ∙ again))
    by_place (inr (inr h)) =
        absurd (no_nan (sym (above-infinity (word_of_float (fin false m e))
        (subst (λ (w : ℕ). 0x7ff0_0000_0000_0000 < w) (sym (mod-eq_of_lt positive)) h)) ∙ again))

pub at-most-bits : (x y : Float) → T (fits binary64 x) → T (fits binary64 y)
    → at_most (price_of x) (price_of y) ≡ is_cost x && (is_cost y && leb (word_of_float x) (word_of_float y))
unfolding to_bits
at-most-bits nan y f g = refl
at-most-bits (inf true) y f g = refl
at-most-bits (inf false) nan f g = refl
at-most-bits (inf false) (inf true) f g = refl
at-most-bits (inf false) (inf false) f g = refl
at-most-bits (inf false) (fin true m e) f g = refl
at-most-bits (inf false) (fin false m e) f g = sym (lt-leb 0x7ff0_0000_0000_0000 (word_of_float (fin false m e)) (below-infinity m e g))
at-most-bits (fin true m e) y f g = refl
at-most-bits (fin false m e) nan f g = refl
at-most-bits (fin false m e) (inf true) f g = refl
at-most-bits (fin false m e) (inf false) f g = sym (le-leb (word_of_float (fin false m e)) 0x7ff0_0000_0000_0000 (omega (arith, below-infinity m e f)))
at-most-bits (fin false m e) (fin true n d) f g = refl
at-most-bits (fin false m e) (fin false n d) f g = refl

-- what is not refused is a cost by its bits
pub is-price : (x : Float) → is_price (price_of x) ≡ is_cost x
is-price nan = refl
is-price (inf true) = refl
is-price (inf false) = refl
is-price (fin true m e) = refl
is-price (fin false m e) = refl

-- and its bits are told, unless it is never
pub told-bits : (x : Float) → is_cost x ≡ true → never_flag (price_of x) ≡ 0 → cost_bits (price_of x) ≡ word_of_float x
told-bits nan h k = absurd (false≢true h)
told-bits (inf true) h k = absurd (false≢true h)
told-bits (inf false) h k = absurd (one_not_zero k)
  where
    one_not_zero : ◌≡◌ {A = ℕ} 1 0 → ⊥
    one_not_zero e = omega (arith, e)
told-bits (fin true m e) h k = absurd (false≢true h)
told-bits (fin false m e) h k = refl

-- ---- differences

-- of two costs the excess is the IEEE difference, or neither is below anything
pub data SameChoice (x y : Float) : Type 0 where
  same : excess (price_of x) (price_of y) ≡ x ⊖ y → SameChoice x y
  none : ((l : Float) → lt (excess (price_of x) (price_of y)) l ≡ false) → ((l : Float) → lt (x ⊖ y) l ≡ false) → SameChoice x y

pub excess-as-floats : (x y : Float) → is_cost x ≡ true → is_cost y ≡ true → SameChoice x y
unfolding sub add neg lt
excess-as-floats nan y h k = absurd (false≢true h)
excess-as-floats (inf true) y h k = absurd (false≢true h)
excess-as-floats (inf false) nan h k = absurd (false≢true k)
excess-as-floats (inf false) (inf true) h k = absurd (false≢true k)
excess-as-floats (inf false) (inf false) h k = none not-below (λ l. refl)
  where
    not-below : (l : Float) → lt (inf false) l ≡ false
    not-below nan = refl
    not-below (inf s) = refl
    not-below (fin s m e) = refl
excess-as-floats (inf false) (fin s m e) h k = same refl
excess-as-floats (fin true m e) y h k = absurd (false≢true h)
excess-as-floats (fin false m e) nan h k = absurd (false≢true k)
excess-as-floats (fin false m e) (inf true) h k = absurd (false≢true k)
excess-as-floats (fin false m e) (inf false) h k = same refl
excess-as-floats (fin false m e) (fin true n d) h k = absurd (false≢true k)
excess-as-floats (fin false m e) (fin false n d) h k = same refl
