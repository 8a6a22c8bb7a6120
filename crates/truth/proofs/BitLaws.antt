-- Bits of words: of `&` and `|`, of all bits, and that words with the same bits are the same. Assumes nothing.
use Prim.Native.Nat.{ℕ, zero, suc, ◌+◌, ◌*◌, ◌/◌, ◌%◌, ◌^◌, ◌<◌}
use mathlib.Core.Bool.{Bool, true, false, ◌&&◌, ◌||◌, not}
use mathlib.Core.Path.{◌≡◌, refl, sym, ap, subst, ◌∙◌}
use native.Mathlib.Omega.{arith}
use native.Mathlib.Nat.{mod-lt, div-lt_iff_lt-mul, div-add-mod', div-one, div-div-eq-div-mul, pow-suc, mul_comm}
use borrow.Author.Tests.{eqb-true, eqb-false}
use lib.Bits.{bit_and, bit_or, and_shr, or_shr, and_mod, or_mod}
use lib.Dec.{eqb}
use Rattle.truth.specs.Words.{bit_at, all_bits, full_if}

low_and : (r s : ℕ) → r < 2 → s < 2 → eqb (bit_and r s) 1 ≡ eqb r 1 && eqb s 1
low_and zero zero p q = refl
low_and zero (suc zero) p q = refl
low_and (suc zero) zero p q = refl
low_and (suc zero) (suc zero) p q = refl
low_and zero (suc (suc s)) p q = absurd (omega arith)
low_and (suc zero) (suc (suc s)) p q = absurd (omega arith)
low_and (suc (suc r)) s p q = absurd (omega arith)

low_or : (r s : ℕ) → r < 2 → s < 2 → eqb (bit_or r s) 1 ≡ eqb r 1 || eqb s 1
low_or zero zero p q = refl
low_or zero (suc zero) p q = refl
low_or (suc zero) zero p q = refl
low_or (suc zero) (suc zero) p q = refl
low_or zero (suc (suc s)) p q = absurd (omega arith)
low_or (suc zero) (suc (suc s)) p q = absurd (omega arith)
low_or (suc (suc r)) s p q = absurd (omega arith)

odd-lt : (n : ℕ) → n % 2 < 2
odd-lt n = mod-lt n {m = 2} (omega arith)

pub bit-and : (a b j : ℕ) → bit_at (bit_and a b) j ≡ bit_at a j && bit_at b j
unfolding bit_at
bit-and a b j =
    ap (λ (n : ℕ). eqb (n % 2) 1) (and_shr a b j) ∙ ap (λ (n : ℕ). eqb n 1) (and_mod (a / 2 ^ j) (b / 2 ^ j) 1)
    ∙ low_and (a / 2 ^ j % 2) (b / 2 ^ j % 2) (odd-lt (a / 2 ^ j)) (odd-lt (b / 2 ^ j))

pub bit-or : (a b j : ℕ) → bit_at (bit_or a b) j ≡ bit_at a j || bit_at b j
unfolding bit_at
bit-or a b j =
    ap (λ (n : ℕ). eqb (n % 2) 1) (or_shr a b j) ∙ ap (λ (n : ℕ). eqb n 1) (or_mod (a / 2 ^ j) (b / 2 ^ j) 1)
    ∙ low_or (a / 2 ^ j % 2) (b / 2 ^ j % 2) (odd-lt (a / 2 ^ j)) (odd-lt (b / 2 ^ j))

-- ---- all bits, and none

-- a test of every number below n
pub every_below : ℕ → (ℕ → Bool) → Bool
every_below zero p = true
every_below (suc n) p = every_below n p && p n

both_true : (a b : Bool) → a && b ≡ true → (a ≡ true) × (b ≡ true)
both_true true b h = (refl, h)
both_true false b h = (h, cc)

pub every-at : (n : ℕ) (p : ℕ → Bool) → every_below n p ≡ true → (j : ℕ) → j < n → p j ≡ true
unfolding every_below
every-at zero p h j l = absurd (omega arith)
every-at (suc n) p h j l = by_place (eqb j n) refl (every-at n p (both_true (every_below n p) (p n) h).0 j)
  where
    by_place : (b : Bool) → eqb j n ≡ b → (j < n → p j ≡ true) → p j ≡ true
    by_place true e rest = subst (λ (i : ℕ). p i ≡ true) (sym (eqb-true j n e)) (both_true (every_below n p) (p n) h).1
    by_place false e rest = rest (omega (arith, eqb-false j n e))

all-checked : every_below 64 (λ j. bit_at 18446744073709551615 j) ≡ true
unfolding every_below bit_at
all-checked = refl

none-checked : every_below 64 (λ j. not (bit_at 0 j)) ≡ true
unfolding every_below bit_at
none-checked = refl

pub bit-all : (j : ℕ) → j < 64 → bit_at all_bits j ≡ true
bit-all j l = every-at 64 (λ j. bit_at 18446744073709551615 j) all-checked j l

not-not : (b : Bool) → not b ≡ true → b ≡ false
not-not false h = refl
not-not true h = sym h

pub bit-none : (j : ℕ) → j < 64 → bit_at 0 j ≡ false
bit-none j l = not-not (bit_at 0 j) (every-at 64 (λ j. not (bit_at 0 j)) none-checked j l)

pub bit-full : (b : Bool) (j : ℕ) → j < 64 → bit_at (full_if b) j ≡ b
bit-full true j l = bit-all j l
bit-full false j l = bit-none j l

-- ---- words with the same bits

half-bit : (a j : ℕ) → bit_at (a / 2) j ≡ bit_at a (suc j)
unfolding bit_at
half-bit a j =
    let e : a / 2 / 2 ^ j ≡ a / 2 ^ suc j = div-div-eq-div-mul a 2 (2 ^ j) ∙ ap (λ (n : ℕ). a / n) (mul_comm 2 (2 ^ j) ∙ sym (pow-suc 2 j)) in
    rw e

low_bit : (a : ℕ) → bit_at a 0 ≡ eqb (a % 2) 1
unfolding bit_at
low_bit a = ap (λ (n : ℕ). eqb (n % 2) 1) (div-one a)

low_same : (r s : ℕ) → r < 2 → s < 2 → eqb r 1 ≡ eqb s 1 → r ≡ s
low_same zero zero p q e = refl
low_same zero (suc zero) p q e = absurd (let z : ◌≡◌ {A = ℕ} 0 1 = cc in omega arith)
low_same (suc zero) zero p q e = absurd (let z : ◌≡◌ {A = ℕ} 0 1 = cc in omega arith)
low_same (suc zero) (suc zero) p q e = refl
low_same zero (suc (suc s)) p q e = absurd (omega arith)
low_same (suc zero) (suc (suc s)) p q e = absurd (omega arith)
low_same (suc (suc r)) s p q e = absurd (omega arith)

half_lt : (n a : ℕ) → a < 2 ^ suc n → a / 2 < 2 ^ n
half_lt n a h = (div-lt_iff_lt-mul {k = 2} {x = a} {y = 2 ^ n} (omega arith)).1 (subst (λ (m : ℕ). a < m) (pow-suc 2 n) h)

pub words-equal : (n a b : ℕ) → a < 2 ^ n → b < 2 ^ n → ((j : ℕ) → j < n → bit_at a j ≡ bit_at b j) → a ≡ b
words-equal zero a b p q e = omega arith
words-equal (suc n) a b p q e =
    let halves : a / 2 ≡ b / 2 =
    words-equal n (a / 2) (b / 2) (half_lt n a p) (half_lt n b q) (λ j l. half-bit a j ∙ e (suc j) (omega arith) ∙ sym (half-bit b j)) in
    let lows : a % 2 ≡ b % 2 = low_same (a % 2) (b % 2) (odd-lt a) (odd-lt b) (sym (low_bit a) ∙ e 0 (omega arith) ∙ low_bit b) in
    sym (div-add-mod' a 2) ∙ ap (λ (m : ℕ). m * 2 + a % 2) halves ∙ ap (λ (m : ℕ). b / 2 * 2 + m) lows ∙ div-add-mod' b 2
