-- A number that a word wrote is read back, and so an element whose size is written as zero is empty.
use Prim.Native.Nat.{ℕ, zero, suc, ◌+◌, ◌*◌, ◌/◌, ◌≤◌, ◌<◌}
use native.Mathlib.Omega.{arith}
use mathlib.Core.Bool.{Bool, true, false, ◌&&◌, false≢true}
use mathlib.Core.List.{[], ◌∷◌}
use mathlib.Core.Path.{◌≡◌, refl, sym, ◌∙◌, ap}
use lib.Dec.{T, leb, ltb, eqb, leb→le, ltb→lt, eqb→eq, eqb-suc-zero}
use lib.IntN.{pos}
use lib.ListN.{length}
use Rattle.script_machine.specs.Numbers.{Bytes, is_true, element, same, read, magnitude, negative, write, digits, signed, nonzero}

pub T_of : {b : Bool} → b ≡ true → T b
T_of e = rw e tt

-- the value of digits in base 256
value : Bytes → ℕ
value [] = 0
value (b ∷ bs) = b + 256 * value bs

value-digits : (f n : ℕ) → n ≤ f → value (digits f n) ≡ n
unfolding value digits
value-digits zero n l = omega arith
value-digits (suc f) n l = go (eqb n 0) refl (value-digits f (n / 256))
  where
    go : (b : Bool) → eqb n 0 ≡ b → (n / 256 ≤ f → value (digits f (n / 256)) ≡ n / 256) → value (digits (suc f) n) ≡ n
    go true e h = rw (e, digits) (sym (eqb→eq n 0 (T_of e)))
    go false e h = rw (e, digits) (omega (arith, h (omega arith)))

-- the last digit of a number that is not below zero is written with no sign bit
magnitude-step : (b c : ℕ) (bs : Bytes) → magnitude (b ∷ signed false (c ∷ bs)) ≡ b + 256 * magnitude (signed false (c ∷ bs))
unfolding magnitude signed
magnitude-step b c [] = go (ltb c 128) refl
  where
    go : (t : Bool) → ltb c 128 ≡ t → magnitude (b ∷ signed false (c ∷ [])) ≡ b + 256 * magnitude (signed false (c ∷ []))
    go true e = rw (e, signed)
    go false e = rw (e, signed)
magnitude-step b c (d ∷ bs) = refl

magnitude-signed : (bs : Bytes) → magnitude (signed false bs) ≡ value bs
unfolding magnitude signed value
magnitude-signed [] = refl
magnitude-signed (b ∷ []) = go (ltb b 128) refl
  where
    go : (t : Bool) → ltb b 128 ≡ t → magnitude (signed false (b ∷ [])) ≡ b + 256 * 0
    go true e = rw (e, signed) (omega (arith, ltb→lt b 128 (T_of e)))
    go false e = rw (e, signed)
magnitude-signed (b ∷ c ∷ bs) = magnitude-step b c bs ∙ ap (λ (z : ℕ). b + 256 * z) (magnitude-signed (c ∷ bs))

leb_no : (m n : ℕ) → n < m → leb m n ≡ false
leb_no m n l = go (leb m n) refl
  where
    go : (b : Bool) → leb m n ≡ b → b ≡ false
    go true e = absurd (let k = leb→le m n (T_of e) in omega arith)
    go false e = refl

negative-step : (b c : ℕ) (bs : Bytes) → negative (b ∷ signed false (c ∷ bs)) ≡ negative (signed false (c ∷ bs))
unfolding negative signed
negative-step b c [] = go (ltb c 128) refl
  where
    go : (t : Bool) → ltb c 128 ≡ t → negative (b ∷ signed false (c ∷ [])) ≡ negative (signed false (c ∷ []))
    go true e = rw (e, signed)
    go false e = rw (e, signed)
negative-step b c (d ∷ bs) = refl

negative-signed : (bs : Bytes) → negative (signed false bs) ≡ false
unfolding negative signed
negative-signed [] = refl
negative-signed (b ∷ []) = go (ltb b 128) refl
  where
    go : (t : Bool) → ltb b 128 ≡ t → negative (signed false (b ∷ [])) ≡ false
    go true e = rw (e, signed) (leb_no 128 b (ltb→lt b 128 (T_of e)))
    go false e = rw (e, signed)
negative-signed (b ∷ c ∷ bs) = negative-step b c bs ∙ negative-signed (c ∷ bs)

pub read-write : (n : ℕ) → read (write (pos n)) ≡ pos n
unfolding read write
read-write n = rw (negative-signed (digits n n), magnitude-signed (digits n n), value-digits n n (omega arith))

-- what NonZero tests: SIZE 0NOTEQUAL IF takes only the empty element for false
none-empty : (x : Bytes) → is_true (element (nonzero (pos (length x)))) ≡ false → x ≡ []
unfolding is_true element nonzero
none-empty [] e = refl
none-empty (b ∷ bs) e = absurd (false≢true (sym (rw (eqb-suc-zero (length bs)) at e)))

pub size_none : (x : Bytes) → is_true (element (nonzero (read (write (pos (length x)))))) ≡ false → x ≡ []
size_none x e = none-empty x (rw (read-write (length x)) at e)

-- equal byte strings
pub same-eq : (x y : Bytes) → same x y ≡ true → x ≡ y
unfolding same
same-eq [] [] e = refl
same-eq [] (c ∷ cs) e = absurd (false≢true e)
same-eq (b ∷ bs) [] e = absurd (false≢true e)
same-eq (b ∷ bs) (c ∷ cs) e = go (eqb b c) refl e (same-eq bs cs)
  where
    go : (t : Bool) → eqb b c ≡ t → t && same bs cs ≡ true → (same bs cs ≡ true → bs ≡ cs) → b ∷ bs ≡ c ∷ cs
    go true d e h = rw (eqb→eq b c (T_of d), h e)
    go false d e h = absurd (false≢true e)
