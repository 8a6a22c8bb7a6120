-- The first word of a key: what it begins with tells the policy and whether there is a dissatisfaction probability. Assumes nothing.
use Rattle.std.specs.Prelude.{Option, None, Some}
use mathlib.Core.Bool.{Bool, true, false, ◌&&◌}
use mathlib.Core.Path.{◌≡◌, refl, sym, ap}
use Prim.Native.Nat.{ℕ, ◌+◌, ◌*◌, ◌/◌, ◌%◌, ◌<◌, ◌≤◌}
use native.Mathlib.Omega.{arith}
use native.Mathlib.Nat.{div-add-mod'}
use borrow.Author.Tests.{eq-eqb, ne_eqb, eqb-true}
use lib.Dec.{T, eqb}
use lib.Ieee.{Float, binary64, fits, eq}
use Rattle.words.specs.Floats.{word_of_float, float_of_word}
use Rattle.words.proofs.Floats.{float-again}
use Rattle.words.proofs.Packing.{digit, rest}
use Rattle.costs.specs.Probabilities.{same_prob}
use Rattle.cache.specs.Slots.{number_in, flag_in, length_in, dissat_in}
use Rattle.cache.specs.Words.{flag_of, key_start, Holds, same_word}

pub flag_small : (dissat : Option Float) → flag_of dissat ≤ 1
flag_small (Some p) = omega arith
flag_small None = omega arith

-- ---- a key that was written

-- the word of a dissatisfaction probability gives it back
pub holds-some : (dissat : Option Float) (p : Float) (w : ℕ) → dissat ≡ Some p → T (fits binary64 p) → w ≡ word_of_float p → Holds dissat w
holds-some dissat p w e f is = rw e (record { is = is; again = ap Some (float-again p f) })

module _ (number : ℕ) (dissat : Option Float) (len : ℕ) (h : number < 0x1_0000) where
  pub number-again : number_in (key_start number dissat + len * 0x2_0000) ≡ number
  number-again = omega (arith, flag_small dissat)

  pub flag-again : flag_in (key_start number dissat + len * 0x2_0000) ≡ flag_of dissat
  flag-again = omega (arith, flag_small dissat)

  pub length-again : len ≤ 128 → length_in (key_start number dissat + len * 0x2_0000) ≡ len
  length-again f = omega (arith, flag_small dissat)

-- ---- a key that is compared

false-last : (b : Bool) → b && false ≡ false
false-last true = refl
false-last false = refl

-- a key that begins so holds this number and this flag
split : (key number f : ℕ) → number < 0x1_0000 → f ≤ 1 → key % 0x2_0000 ≡ number + f * 0x1_0000 → (number ≡ number_in key) × (flag_in key ≡ f)
split key number f h l e =
    let q = key / 0x2_0000 in
    let k : key / 0x2_0000 * 0x2_0000 + key % 0x2_0000 ≡ key = div-add-mod' key 0x2_0000 in
    let is : key ≡ number + (f + q * 2) * 0x1_0000 = omega arith in
    (rw is (sym (digit 0x1_0000 number (f + q * 2) h)), rw (is, rest 0x1_0000 number (f + q * 2) h) (digit 2 f q (omega arith)))

module _ (number : ℕ) (sat : Float) (key w₁ w₂ : ℕ) (h : number < 0x1_0000) where
  pub starts-same : (dissat : Option Float) → key % 0x2_0000 ≡ key_start number dissat
      → eq sat (float_of_word w₁) && same_word dissat w₂
      ≡ eqb number (number_in key) && (eq sat (float_of_word w₁) && same_prob dissat (dissat_in (flag_in key) w₂))
  starts-same (Some p) e =
      let parts = split key number 1 h (omega arith) e in
      rw (eq-eqb number (number_in key) parts.0, eq-eqb (flag_in key) 1 parts.1)
  starts-same None e =
      let parts = split key number 0 h (omega arith) e in
      let f : flag_in key ≡ 0 = parts.1 in
      rw (eq-eqb number (number_in key) parts.0, ne_eqb (flag_in key) 1 (λ (e : flag_in key ≡ 1). omega arith))

  pub starts-differ : (dissat : Option Float) → (key % 0x2_0000 ≡ key_start number dissat → ⊥)
      → false ≡ eqb number (number_in key) && (eq sat (float_of_word w₁) && same_prob dissat (dissat_in (flag_in key) w₂))
  starts-differ dissat ne = by_number (eqb number (number_in key)) refl
    where
      other : (dissat : Option Float) → (key / 0x1_0000 % 2 ≡ flag_of dissat → ⊥) → same_prob dissat (dissat_in (flag_in key) w₂) ≡ false
      other (Some p) ne = rw (ne_eqb (key / 0x1_0000 % 2) 1 ne)
      other None ne =
          let f : key / 0x1_0000 % 2 ≡ 1 = omega (arith, ne) in
          rw (eq-eqb (key / 0x1_0000 % 2) 1 f)

      by_number : (t : Bool) → eqb number (number_in key) ≡ t → false ≡ t && (eq sat (float_of_word w₁) && same_prob dissat (dissat_in (flag_in key) w₂))
      by_number true e =
          let n : number ≡ key % 0x1_0000 = eqb-true number (number_in key) e in
          rw (other dissat (λ (f : key / 0x1_0000 % 2 ≡ flag_of dissat). ne (omega (arith, flag_small dissat))), false-last (eq sat (float_of_word w₁)))
      by_number false e = refl
