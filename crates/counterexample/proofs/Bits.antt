-- The bits of a word one by one, and where two words differ. Assumes nothing.
use Prim.Native.Nat.{ℕ, suc, ◌+◌, ◌/◌, ◌%◌, ◌^◌, ◌≤◌, ◌<◌}
use mathlib.Core.Bool.{Bool, true, false, not, beq}
use mathlib.Core.Path.{◌≡◌, refl, sym, ap, ◌∙◌}
use native.Mathlib.Omega.{arith}
use native.Mathlib.Nat.{div-one, div-div-eq-div-mul, pow-suc}
use lib.Dec.{eqb}
use Rattle.std.specs.Prelude.{Some}
use Rattle.truth.specs.Words.{bit_at}
use Rattle.counterexample.specs.Example.{ApartAt}

-- ---- a word halved again and again

pub whole : (word : ℕ) → word ≡ word / 2 ^ 0
whole word = sym (div-one word)

halves : (word i : ℕ) → word / 2 ^ i / 2 ≡ word / 2 ^ (i + 1)
halves word i =
    let next : suc i ≡ i + 1 = omega arith in
    div-div-eq-div-mul word (2 ^ i) 2 ∙ ap (λ (n : ℕ). word / n) (sym (pow-suc 2 i) ∙ ap (λ (n : ℕ). 2 ^ n) next)

pub halved : (word i : ℕ) {x : ℕ} → x ≡ word / 2 ^ i → x / 2 ≡ word / 2 ^ (i + 1)
halved word i e = ap (λ (n : ℕ). n / 2) e ∙ halves word i

pub bit-told : (word j i : ℕ) {x : ℕ} → i ≤ j → j ≤ i → x ≡ word / 2 ^ i → eqb (x % 2) 1 ≡ bit_at word j
unfolding bit_at
bit-told word j i low high e =
    let same : i ≡ j = omega arith in
    ap (λ (n : ℕ). eqb (n % 2) 1) (e ∙ ap (λ (n : ℕ). word / 2 ^ n) same)

-- ---- a bit in which two words differ

other : (a b : Bool) → not (beq a b) ≡ true → b ≡ not a
other true true e = absurd (let z : ◌≡◌ {A = ℕ} 0 1 = cc (e) in omega arith)
other true false e = refl
other false true e = refl
other false false e = absurd (let z : ◌≡◌ {A = ℕ} 0 1 = cc (e) in omega arith)

pub is-apart : (left right j : ℕ) → j < 64 → {a b : Bool} → a ≡ bit_at left j → b ≡ bit_at right j → not (beq a b) ≡ true
    → ApartAt left right (Some (record { bit = j; left = a }))
is-apart left right j low {a} {b} its-left its-right e = (low, sym its-left, sym its-right ∙ other a b e)
