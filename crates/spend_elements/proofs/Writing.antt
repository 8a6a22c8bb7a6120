-- A number is written in the bytes that its size takes, with its sign bit; sums and comparisons by sign and size.
use Prim.Native.Nat.{ℕ, zero, suc, ◌+◌, ◌*◌, ◌-◌, ◌/◌, ◌%◌, ◌≤◌, ◌<◌}
use native.Mathlib.Nat.{add-mul-mod_self_right}
use native.Mathlib.Omega.{arith}
use mathlib.Core.Bool.{Bool, true, false, not, beq}
use mathlib.Core.List.{List, [], ◌∷◌}
use mathlib.Core.Path.{◌≡◌, refl, ◌∙◌, sym, ap}
use borrow.Author.Tests.{lt-ltb, le-ltb, ne_eqb, eq-eqb, ltb-true, ltb-false}
use lib.Dec.{eqb, ltb, eqb-suc-zero}
use lib.IntN.{ℤ, pos, negsuc, neg_ℤ, sub_ℕ, ◌+ℤ◌, ◌-ℤ◌}
use Rattle.words.specs.Bytes.{bytes_of}
use Rattle.words.proofs.Packing.{digit, rest}
use Rattle.script_machine.specs.Numbers as Numbers
use Rattle.script_machine.specs.Numbers.{Bytes, digits, write, nonzero, equal}
use Rattle.spend_elements.specs.Signed.{int_of, signed}

digits-none : (bound : ℕ) → digits bound 0 ≡ []
unfolding digits
digits-none zero = refl
digits-none (suc bound) = refl

digits-next : (bound n : ℕ) → 0 < n → digits (suc bound) n ≡ n % 256 ∷ digits bound (n / 256)
unfolding digits
digits-next bound n h = rw (ne_eqb n 0 (λ e. omega arith), digits)

digits-one : (bound n : ℕ) → 0 < n → n < 256 → digits (suc bound) n ≡ n ∷ []
digits-one bound n l h =
    let low : n % 256 ≡ n = omega arith in
    let high : n / 256 ≡ 0 = omega arith in
    digits-next bound n l ∙ rw (low, high, digits-none bound)

-- a size of so many bytes, whatever the bound
abbrev Fills : Bool → (width bit n : ℕ) → Type 0
Fills s width bit n = (bound : ℕ) → n ≤ bound → Numbers.signed s (digits bound n) ≡ bytes_of width (n + signed s bit)

-- one byte more
fills-next : (s : Bool) (width bit n : ℕ) → 256 ≤ n → Fills s (suc width) bit (n / 256) → Fills s (suc (suc width)) (bit * 256) n
unfolding bytes_of Numbers.signed
fills-next s width bit n l f bound h = go bound h
  where
    more : (x b m : ℕ) → 0 < m → m ≤ b → Numbers.signed s (x ∷ digits b m) ≡ x ∷ Numbers.signed s (digits b m)
    more x zero m k j = absurd (omega arith)
    more x (suc b) m k j = rw (digits-next b m k)

    high : (t : Bool) → (n + signed t (bit * 256)) / 256 ≡ n / 256 + signed t bit
    high true = let e = add-mul-mod_self_right n bit 256 in omega arith
    high false = omega arith

    low : (t : Bool) → (n + signed t (bit * 256)) % 256 ≡ n % 256
    low true = add-mul-mod_self_right n bit 256
    low false = omega arith

    go : (bound : ℕ) → n ≤ bound → Numbers.signed s (digits bound n) ≡ bytes_of (suc (suc width)) (n + signed s (bit * 256))
    go zero h = absurd (omega arith)
    go (suc b) h =
        rw (digits-next b n (omega arith), more (n % 256) b (n / 256) (omega arith) (omega arith), low s, high s)
        (ap (λ (l : Bytes). n % 256 ∷ l) (f b (omega arith)))

fills-1 : (s : Bool) (n : ℕ) → 0 < n → n < 128 → Fills s 1 128 n
unfolding bytes_of Numbers.signed
fills-1 s n l h zero k = absurd (omega arith)
fills-1 true n l h (suc b) k =
    let e : (n + 128) % 256 ≡ n + 128 = omega arith in
    rw (digits-one b n l (omega arith), lt-ltb n 128 h, e)
fills-1 false n l h (suc b) k =
    let e : (n + 0) % 256 ≡ n = omega arith in
    rw (digits-one b n l (omega arith), lt-ltb n 128 h, e)

-- a byte that has the sign's place takes one more for the sign
fills-over : (s : Bool) (n : ℕ) → 128 ≤ n → n < 256 → Fills s 2 32768 n
unfolding bytes_of Numbers.signed
fills-over s n l h zero k = absurd (omega arith)
fills-over true n l h (suc b) k =
    let e : (n + 32768) % 256 ≡ n = digit 256 n 128 h in
    let f : (n + 32768) / 256 ≡ 128 = rest 256 n 128 h in
    rw (digits-one b n (omega arith) h, le-ltb n 128 l, e, f)
fills-over false n l h (suc b) k =
    let e : (n + 0) % 256 ≡ n = omega arith in
    let f : (n + 0) / 256 % 256 ≡ 0 = omega arith in
    rw (digits-one b n (omega arith) h, le-ltb n 128 l, e, f)

fills-2 : (s : Bool) (n : ℕ) → 128 ≤ n → n < 32768 → Fills s 2 32768 n
fills-2 s n l h = go (ltb n 256) refl
  where
    go : (b : Bool) → ltb n 256 ≡ b → Fills s 2 32768 n
    go true e = fills-over s n l (ltb-true n 256 e)
    go false e = let k = ltb-false n 256 e in fills-next s 0 128 n k (fills-1 s (n / 256) (omega arith) (omega arith))

fills-3 : (s : Bool) (n : ℕ) → 32768 ≤ n → n < 8388608 → Fills s 3 8388608 n
fills-3 s n l h = fills-next s 1 32768 n (omega arith) (fills-2 s (n / 256) (omega arith) (omega arith))

fills-4 : (s : Bool) (n : ℕ) → 8388608 ≤ n → n < 2147483648 → Fills s 4 2147483648 n
fills-4 s n l h = fills-next s 2 8388608 n (omega arith) (fills-3 s (n / 256) (omega arith) (omega arith))

fills-5 : (s : Bool) (n : ℕ) → 2147483648 ≤ n → n < 549755813888 → Fills s 5 549755813888 n
fills-5 s n l h = fills-next s 3 2147483648 n (omega arith) (fills-4 s (n / 256) (omega arith) (omega arith))

writes : (s : Bool) (width bit n : ℕ) → 0 < n → Fills s width bit n → bytes_of width (n + signed s bit) ≡ write (int_of s n)
unfolding write
writes true width bit zero l f = absurd (omega arith)
writes true width bit (suc n) l f = sym (f (suc n) (omega arith))
writes false width bit n l f = sym (f n (omega arith))

pub writes-0 : (s : Bool) → bytes_of 0 0 ≡ write (int_of s 0)
unfolding bytes_of write digits Numbers.signed
writes-0 true = refl
writes-0 false = refl

pub writes-1 : (s : Bool) (n : ℕ) → 0 < n → n < 128 → bytes_of 1 (n + signed s 128) ≡ write (int_of s n)
writes-1 s n l h = writes s 1 128 n l (fills-1 s n l h)

pub writes-2 : (s : Bool) (n : ℕ) → 128 ≤ n → n < 32768 → bytes_of 2 (n + signed s 32768) ≡ write (int_of s n)
writes-2 s n l h = writes s 2 32768 n (omega arith) (fills-2 s n l h)

pub writes-3 : (s : Bool) (n : ℕ) → 32768 ≤ n → n < 8388608 → bytes_of 3 (n + signed s 8388608) ≡ write (int_of s n)
writes-3 s n l h = writes s 3 8388608 n (omega arith) (fills-3 s n l h)

pub writes-4 : (s : Bool) (n : ℕ) → 8388608 ≤ n → n < 2147483648 → bytes_of 4 (n + signed s 2147483648) ≡ write (int_of s n)
writes-4 s n l h = writes s 4 2147483648 n (omega arith) (fills-4 s n l h)

pub writes-5 : (s : Bool) (n : ℕ) → 2147483648 ≤ n → n < 549755813888 → bytes_of 5 (n + signed s 549755813888) ≡ write (int_of s n)
writes-5 s n l h = writes s 5 549755813888 n (omega arith) (fills-5 s n l h)

-- sums
pub minus-less : (a b : ℕ) → a < b → pos a -ℤ pos b ≡ int_of true (b - a)
minus-less a zero h = absurd (omega arith)
minus-less a (suc b) h = rw (lt-ltb a (suc b) h) (go (suc b - a) (suc b - suc a) (omega arith))
  where
    go : (x y : ℕ) → x ≡ suc y → negsuc y ≡ neg_ℤ (pos x)
    go x y e = rw e

pub minus-more : (a b : ℕ) → b ≤ a → pos a -ℤ pos b ≡ int_of false (a - b)
minus-more a zero h = ap pos (omega arith)
minus-more a (suc b) h = rw (le-ltb a (suc b) h)

pub both_negative : (a b : ℕ) → int_of true (a + b) ≡ int_of true a +ℤ int_of true b
both_negative zero zero = refl
both_negative zero (suc b) =
    let e : 0 + suc b ≡ suc b = omega arith in
    let d : suc b - 1 ≡ b = omega arith in
    rw (e, lt-ltb 0 (suc b) (omega arith), d)
both_negative (suc a) zero =
    let e : suc a + 0 ≡ suc a = omega arith in
    let d : suc a - 1 ≡ a = omega arith in
    rw (e, lt-ltb 0 (suc a) (omega arith), d)
both_negative (suc a) (suc b) =
    let e : suc a + suc b ≡ suc (suc (a + b)) = omega arith in
    rw e

pub negative-first : (a b : ℕ) → int_of true a +ℤ pos b ≡ pos b -ℤ pos a
negative-first zero b = ap pos (omega arith)
negative-first (suc a) b = refl

-- comparisons
pub equal-sizes : (s t : Bool) (m n : ℕ) → (m ≡ n → ⊥) → equal (int_of s m) (int_of t n) ≡ false
unfolding equal
equal-sizes true true zero zero h = absurd (h refl)
equal-sizes true true zero (suc n) h = refl
equal-sizes true true (suc m) zero h = refl
equal-sizes true true (suc m) (suc n) h = ne_eqb m n (λ e. h (ap suc e))
equal-sizes true false zero n h = ne_eqb 0 n h
equal-sizes true false (suc m) n h = refl
equal-sizes false true m zero h = ne_eqb m 0 h
equal-sizes false true m (suc n) h = refl
equal-sizes false false m n h = ne_eqb m n h

pub equal-zeros : (s t : Bool) (m n : ℕ) → m ≡ 0 → n ≡ 0 → equal (int_of s m) (int_of t n) ≡ true
unfolding equal
equal-zeros true true m n e d = rw (e, d)
equal-zeros true false m n e d = rw (e, d)
equal-zeros false true m n e d = rw (e, d)
equal-zeros false false m n e d = rw (e, d)

pub equal-signs : (s t : Bool) (m n : ℕ) → m ≡ n → (m ≡ 0 → ⊥) → equal (int_of s m) (int_of t n) ≡ beq s t
unfolding equal
equal-signs s t zero n e h = absurd (h refl)
equal-signs true true (suc m) zero e h = absurd (omega arith)
equal-signs true true (suc m) (suc n) e h = eq-eqb m n (omega arith)
equal-signs true false (suc m) n e h = refl
equal-signs false true (suc m) zero e h = absurd (omega arith)
equal-signs false true (suc m) (suc n) e h = refl
equal-signs false false (suc m) n e h = eq-eqb (suc m) n e

pub nonzero-is : (s : Bool) (n : ℕ) → nonzero (int_of s n) ≡ not (eqb n 0)
unfolding nonzero
nonzero-is true zero = refl
nonzero-is true (suc n) = rw (eqb-suc-zero n)
nonzero-is false n = refl

pub above_zero : (n : ℕ) → (n ≡ 0 → ⊥) → 0 < n
above_zero zero h = absurd (h refl)
above_zero (suc n) h = omega arith
