-- Laws on a float's word and on costs. Crates above cite `float-again`, `word-again`, `above-infinity` and `sign_clear`. Assumes nothing.
use mathlib.Core.Path.{◌≡◌, refl, sym, subst, ◌∙◌}
use mathlib.Core.Bool.{true, false, not}
use Prim.Native.Nat.{ℕ, ◌%◌, ◌<◌, ◌≤◌, ◌+◌, ◌*◌, ◌^◌, ◌/◌, ◌-◌}
use native.Mathlib.Omega.{arith}
use borrow.Author.Tests.{lt-ltb, le-ltb}
use lib.Dec.{T, ltb}
use lib.Ieee.{Float, nan, inf, fin, binary64, ne, neg, is_nan, fits, to_bits, of_bits, nan_bits, up, down, low, prec, hid, size}
use lib.Ieee.Compare.{differs_from_itself, nan_differs}
use lib.Ieee.Bits.{nan_bits_is, nan_bits_above, to_bits-lt, of_bits-to_bits, to_bits-of_bits}
use lib.Ieee.Fits.{neg-fits}
use Rattle.words.specs.Floats.{word_of_float, float_of_word, is_cost}

-- ---- a float as a word

-- every float comes back from its word, a NaN too
pub float-again : (x : Float) → T (fits binary64 x) → float_of_word (word_of_float x) ≡ x
float-again x f = of_bits-to_bits binary64 x f

-- every word comes back from its float, but for the words of NaNs
pub word-again : (w : ℕ) → w < 0x1_0000_0000_0000_0000 → T (not (is_nan (float_of_word w))) → word_of_float (float_of_word w) ≡ w
word-again w h n = to_bits-of_bits binary64 w h n

pub is-nan : (x : Float) → ne x x ≡ true → x ≡ nan
is-nan x d = differs_from_itself x (subst T (sym d) tt)

pub no_nan : (x : Float) → ne x x ≡ false → T (not (is_nan x))
unfolding is_nan
no_nan nan h = absurd (subst T (sym nan_differs ∙ h) tt)
no_nan (inf sign) h = tt
no_nan (fin sign mantissa exponent) h = tt

only_nan : (x : Float) → is_nan x ≡ true → x ≡ nan
unfolding is_nan
only_nan nan h = refl
only_nan (inf sign) h = absurd (subst T (sym h) tt)
only_nan (fin sign mantissa exponent) h = absurd (subst T (sym h) tt)

-- above the word of infinity, the sign bit aside, stand the NaNs
pub above-infinity : (w : ℕ) → 0x7ff0_0000_0000_0000 < w % 0x8000_0000_0000_0000 → float_of_word w ≡ nan
above-infinity w h =
    only_nan (of_bits binary64 w)
    (sym (nan_bits_is binary64 w) ∙ nan_bits_above binary64 w ∙ lt-ltb 0x7ff0_0000_0000_0000 (w % 0x8000_0000_0000_0000) h)

pub not-above : (w : ℕ) → w % 0x8000_0000_0000_0000 ≤ 0x7ff0_0000_0000_0000 → T (not (nan_bits binary64 w))
not-above w h = rw (nan_bits_above binary64 w ∙ le-ltb 0x7ff0_0000_0000_0000 (w % 0x8000_0000_0000_0000) h) tt

-- ---- what a cost is

-- the bits of what is no NaN are below the sign bit's word exactly where the sign is clear
pub sign_clear : (x : Float) → T (fits binary64 x) → T (not (is_nan x)) → ltb (word_of_float x) 0x8000_0000_0000_0000 ≡ is_cost x
unfolding to_bits is_nan neg
sign_clear nan f n = absurd n
sign_clear (inf true) f n = refl
sign_clear (inf false) f n = refl
sign_clear (fin true m e) f n =
    let u = m * up e * 2 ^ low binary64 / down e in
    let k = size u - prec binary64 in
    le-ltb _ 0x8000_0000_0000_0000 (set-bit (k * hid binary64) (u / 2 ^ k))
  where
    set-bit : (a b : ℕ) → 0x8000_0000_0000_0000 ≤ 0x8000_0000_0000_0000 + a + b
    set-bit a b = omega arith
sign_clear (fin false m e) f n =
    let u = m * up e * 2 ^ low binary64 / down e in
    let k = size u - prec binary64 in
    lt-ltb _ 0x8000_0000_0000_0000
    (clear-bit (k * hid binary64) (u / 2 ^ k) (to_bits-lt binary64 (fin true m e) (neg-fits binary64 (fin false m e) f)))
  where
    clear-bit : (a b : ℕ) → 0x8000_0000_0000_0000 + a + b < 2 * 0x8000_0000_0000_0000 → 0 + a + b < 0x8000_0000_0000_0000
    clear-bit a b h = omega arith
