-- Numbers read digit by digit. Assumes nothing.
use mathlib.Core.Bool.{Bool, true, false, cond, ◌&&◌}
use mathlib.Core.List.{List, [], ◌∷◌}
use Rattle.std.specs.Prelude.{Option, None, Some}
use mathlib.Core.Path.{◌≡◌, refl, ap, ◌∙◌}
use Prim.Native.Nat.{ℕ, suc, ◌+◌, ◌-◌, ◌*◌, ◌^◌, ◌<◌, ◌≤◌}
use native.Mathlib.Nat.{pow-zero, pow-suc, pow-le-pow_right, mul-le-mul_right, add-mul, mul_assoc, mul_comm}
use native.Mathlib.Numerals.{add-one}
use native.Mathlib.Omega.{arith}
use borrow.Author.Tests.{lt-ltb, le-ltb, le-leb, lt-leb, eq-eqb, ne_eqb}
use lib.Dec.{ltb}
use lib.ListN.{length, drop, get_or}
use lib.Seq.{drop-cons, drop-length}
use Rattle.numerals.specs.Numbers.{digit, all_digits, value, number_in, below, decimal, bits}

-- ---- the value of a digit

pub below-0 : (b : ℕ) → b < 48 → digit b ≡ 16
below-0 b h = rw (lt-leb 48 b h, lt-leb 65 b (omega arith))

pub from-0-to-9 : (b : ℕ) → 48 ≤ b → b ≤ 57 → digit b ≡ b - 48
from-0-to-9 b h k = rw (le-leb 48 b h, le-leb b 57 k)

pub from-9-to-a : (b : ℕ) → 57 < b → b < 65 → digit b ≡ 16
from-9-to-a b h k = rw (le-leb 48 b (omega arith), lt-leb b 57 h, lt-leb 65 b k)

pub from-a-to-f : (b : ℕ) → 65 ≤ b → b ≤ 70 → digit b ≡ b - 55
from-a-to-f b h k = rw (le-leb 48 b (omega arith), lt-leb b 57 (omega arith), le-leb 65 b h, le-leb b 70 k)

pub above-f : (b : ℕ) → 70 < b → digit b ≡ 16
above-f b h = rw (le-leb 48 b (omega arith), lt-leb b 57 (omega arith), le-leb 65 b (omega arith), lt-leb b 70 h)

-- ---- a number that goes on

-- the number that n becomes as digits of a base are written after it
abbrev pub number_after : (base n : ℕ) → List ℕ → Option ℕ
number_after base n w = cond (all_digits base w) (Some (n * base ^ length w + value base w)) None

-- the number n of the first i digits
pub record Read (base : ℕ) (w : List ℕ) (n i : ℕ) : Type 0 where
  pub within : i ≤ length w
  pub small : n < base ^ i
  pub goes : number_in base w ≡ number_after base n (drop i w)

shifted : (base n d p v : ℕ) → n * (p * base) + (d * p + v) ≡ (n * base + d) * p + v
shifted base n d p v =
    let parts : (n * base + d) * p ≡ n * base * p + d * p = add-mul (n * base) d p in
    let places : n * base * p ≡ n * (p * base) = mul_assoc n base p ∙ ap (λ m. n * m) (mul_comm base p) in
    omega arith

-- a digit more
number-cons : (base n b : ℕ) (w : List ℕ)
    → number_after base n (b ∷ w) ≡ cond (ltb (digit b) base) (number_after base (n * base + digit b) w) None
unfolding all_digits value
number-cons base n b w = go (ltb (digit b) base)
  where
    go : (t : Bool)
        → cond (t && all_digits base w) (Some (n * base ^ length (b ∷ w) + (digit b * base ^ length w + value base w))) None
        ≡ cond t (number_after base (n * base + digit b) w) None
    go true =
        ap (λ (m : ℕ). cond (all_digits base w) (Some m) None)
        (rw (pow-suc base (length w)) (shifted base n (digit b) (base ^ length w) (value base w)))
    go false = refl

number-nil : (base n : ℕ) → number_after base n [] ≡ Some n
unfolding all_digits value
number-nil base n = ap Some (let one : n * base ^ 0 + 0 ≡ n * 1 + 0 = rw (pow-zero base) in omega arith)

module _ (base : ℕ) (w : List ℕ) where
  pub read_none : Read base w 0 0
  read_none = record {
    within = omega arith;
    small = omega (arith, pow-zero base);
    goes = ap (λ (m : ℕ). cond (all_digits base w) (Some m) None) (omega arith);
  }

  -- one digit more is below one power more
  more-small : (n i d : ℕ) → n < base ^ i → d < base → n * base + d < base ^ suc i
  more-small n i d h k =
      let e : base ^ suc i ≡ base ^ i * base = pow-suc base i in
      let m : suc n * base ≤ base ^ i * base = mul-le-mul_right base h in
      omega (arith, e, m)

  module _ (n i : ℕ) (r : Read base w n i) (h : i < length w) where
    next : number_in base w ≡ cond (ltb (digit (get_or w i 0)) base) (number_after base (n * base + digit (get_or w i 0)) (drop (suc i) w)) None
    next = r.goes ∙ ap (number_after base n) (drop-cons w i 0 h) ∙ number-cons base n (get_or w i 0) (drop (suc i) w)

    pub no_digit : (d : ℕ) → d ≡ digit (get_or w i 0) → base ≤ d → None ≡ number_in base w
    no_digit d e k = rw (next, le-ltb (digit (get_or w i 0)) base (rw (← e) k))

    pub read_next : (d : ℕ) → d ≡ digit (get_or w i 0) → d < base → Read base w (n * base + d) (i + 1)
    read_next d e k = record {
      within = omega arith;
      small = rw (add-one i) (more-small n i d r.small k);
      goes = next ∙ rw (lt-ltb (digit (get_or w i 0)) base (rw (← e) k), ← e, add-one i);
    }

    pub fits_next : (d : ℕ) → d < base → base ^ length w ≤ 2 ^ 64 → n * base + d < 2 ^ 64
    fits_next d k room =
        let up : base ^ suc i ≤ base ^ length w = pow-le-pow_right (omega arith) (omega arith) in
        omega (arith, more-small n i d r.small k, up)

  pub read_all : (n i : ℕ) → Read base w n i → (i < length w → ⊥) → number_in base w ≡ Some n
  read_all n i r ended =
      let e : i ≡ length w = omega (arith, r.within) in
      r.goes ∙ ap (number_after base n) (ap (λ (k : ℕ). drop k w) e ∙ drop-length w) ∙ number-nil base n

-- ---- a word that is a number

module _ (w : List ℕ) where
  pub no-digits : length w ≡ 0 → decimal w ≡ None
  unfolding decimal
  no-digits h = rw (lt-leb 1 (length w) (omega arith))

  pub many-digits : 10 < length w → decimal w ≡ None
  unfolding decimal
  many-digits h = rw (le-leb 1 (length w) (omega arith), lt-leb (length w) 10 h)

  decimal-read : (length w ≡ 0 → ⊥) → length w ≤ 10 → decimal w ≡ below (2 ^ 32) (number_in 10 w)
  unfolding decimal
  decimal-read h k = rw (le-leb 1 (length w) (omega arith), le-leb (length w) 10 k)

  pub ten-digits-fit : length w ≤ 10 → 10 ^ length w ≤ 2 ^ 64
  ten-digits-fit k =
      let up : 10 ^ length w ≤ 10 ^ 10 = pow-le-pow_right (omega arith) k in
      omega arith

  module _ (h : (length w ≡ 0 → ⊥)) (k : length w ≤ 10) where
    pub decimal-fits : (n : ℕ) → number_in 10 w ≡ Some n → n < 4294967296 → decimal w ≡ Some n
    decimal-fits n e f = decimal-read h k ∙ ap (below (2 ^ 32)) e ∙ rw (lt-ltb n (2 ^ 32) f)

    pub decimal-large : (n : ℕ) → number_in 10 w ≡ Some n → 4294967296 ≤ n → decimal w ≡ None
    decimal-large n e f = decimal-read h k ∙ ap (below (2 ^ 32)) e ∙ rw (le-ltb n (2 ^ 32) f)

    pub decimal-missing : number_in 10 w ≡ None → decimal w ≡ None
    decimal-missing e = decimal-read h k ∙ ap (below (2 ^ 32)) e

  pub bits-read : length w ≡ 16 → number_in 16 w ≡ bits w
  unfolding bits
  bits-read h = rw (eq-eqb (length w) 16 h)

  pub bits-missing : (length w ≡ 16 → ⊥) → bits w ≡ None
  unfolding bits
  bits-missing h = rw (ne_eqb (length w) 16 h)

  pub sixteen-digits-fit : length w ≡ 16 → 16 ^ length w ≤ 2 ^ 64
  sixteen-digits-fit h = rw h (omega arith)
