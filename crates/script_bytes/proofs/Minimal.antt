-- Pushes are minimal. Assumes nothing.
use Prim.Native.Nat.{ℕ, zero, suc, ◌+◌, ◌-◌, ◌≤◌}
use native.Mathlib.Omega.{arith}
use mathlib.Core.Bool.{Bool, true, false, ◌&&◌}
use mathlib.Core.List.{List, [], ◌∷◌, ◌++◌}
use Rattle.std.specs.Prelude.{Option, None, Some}
use mathlib.Core.Path.{◌≡◌, refl, sym, ◌∙◌, ap}
use borrow.Author.Tests.{eqb-false, leb-true, le-leb}
use lib.Dec.{leb, eqb}
use lib.ListN.{length, length-append}
use Rattle.script_machine.specs.Numbers.{Bytes}
use Rattle.script_bytes.specs.Opcodes.{Token, push, op}
use Rattle.script_bytes.specs.Encoding.{push_byte, push_bytes}
use Rattle.script_bytes.specs.Decoding.{between, inside, lost, with_token, decode_from, MinimalPushes}

-- a push takes at most one byte more than what it pushes
byte-length : (b : ℕ) → length (push_byte b) ≤ 2
byte-length b = go (leb 1 b && leb b 16) (eqb b 0x81) refl refl
  where
    go : (r s : Bool) → leb 1 b && leb b 16 ≡ r → eqb b 0x81 ≡ s → length (push_byte b) ≤ 2
    go true s e d = rw e (omega arith)
    go false true e d = rw (e, d) (omega arith)
    go false false e d = rw (e, d) (omega arith)

push-at-most : (x : Bytes) → length (push_bytes x) ≤ suc (length x)
unfolding push_bytes
push-at-most [] = omega arith
push-at-most (b ∷ []) = byte-length b
push-at-most (b ∷ c ∷ bs) = omega arith

-- ---- what is read as a push

none≢some : {A : Type 0} {a : A} → None ≡ Some a → ⊥
none≢some e = let z : ◌≡◌ {A = ℕ} 0 1 = cc in omega arith

-- the token that was read first
read_first : (k : Token) (rest : Option (List Token)) {x : Bytes} {ks : List Token} → with_token (Some k) rest ≡ Some (push x ∷ ks) → k ≡ push x
read_first k None e = absurd (none≢some e)
read_first k (Some more) e = cc

op≢push : {n : ℕ} {x : Bytes} → op n ≡ push x → ⊥
op≢push e = let z : ◌≡◌ {A = ℕ} 0 1 = cc in omega arith

pushed : {x y : Bytes} → push x ≡ push y → x ≡ y
pushed e = cc

lost-for-good : (bs : Bytes) → decode_from lost bs ≡ None
unfolding decode_from
lost-for-good [] = refl
lost-for-good (b ∷ bs) = lost-for-good bs

inside-length : (bs : Bytes) (n : ℕ) (y x : Bytes) (ks : List Token) → decode_from (inside n y) bs ≡ Some (push x ∷ ks)
    → (length x ≡ length y + suc n) × (suc n ≤ length bs)
unfolding decode_from
inside-length [] n y x ks e = absurd (none≢some e)
inside-length (b ∷ bs) zero y x ks e =
    let same = pushed (read_first (push (y ++ b ∷ [])) (decode_from between bs) e) in
    (omega (arith, ap length same, length-append y (b ∷ [])), omega arith)
inside-length (b ∷ bs) (suc n) y x ks e =
    let rest = inside-length bs n (y ++ b ∷ []) x ks e in
    (omega (arith, rest.0, length-append y (b ∷ [])), omega (arith, rest.1))

small-length : (b : ℕ) → 1 ≤ b → b ≤ 16 → length (push_byte b) ≡ 1
small-length b l h = rw (le-leb 1 b l, le-leb b 16 h)

pub minimal-pushes : MinimalPushes
unfolding decode_from push_bytes
minimal-pushes x [] e = absurd (let z : ◌≡◌ {A = ℕ} 0 1 = cc in omega arith)
minimal-pushes x (b ∷ bs) e = go (eqb b 0) (leb b 75) (leb b 0x4e) (eqb b 0x4f) (leb 0x51 b) (leb b 0x60) refl refl refl refl refl refl
  where
    the-push : (y : Bytes) → with_token (Some (push y)) (decode_from between bs) ≡ Some (push x ∷ []) → length (push_bytes y) ≡ 1
        → length (push_bytes x) ≤ suc (length bs)
    the-push y d l = omega (arith, l, ap (λ (z : Bytes). length (push_bytes z)) (pushed (read_first (push y) (decode_from between bs) d)))

    go : (p q r s u v : Bool) → eqb b 0 ≡ p → leb b 75 ≡ q → leb b 0x4e ≡ r → eqb b 0x4f ≡ s → leb 0x51 b ≡ u → leb b 0x60 ≡ v
        → length (push_bytes x) ≤ suc (length bs)
    go true q r s u v p= q= r= s= u= v= = the-push [] (rw p= at e) refl
    go false true r s u v p= q= r= s= u= v= =
        let some_bytes = eqb-false b 0 p= in
        let l = inside-length bs (b - 1) [] x [] (rw (p=, q=) at e) in
        omega (arith, push-at-most x, l.0, l.1)
    go false false true s u v p= q= r= s= u= v= = absurd (none≢some (sym (lost-for-good bs) ∙ (rw (p=, q=, r=) at e)))
    go false false false true u v p= q= r= s= u= v= = the-push (0x81 ∷ []) (rw (p=, q=, r=, s=) at e) refl
    go false false false false true true p= q= r= s= u= v= =
        let low = leb-true 0x51 b u= in
        let high = leb-true b 0x60 v= in
        the-push ((b - 0x50) ∷ []) (rw (p=, q=, r=, s=, u=, v=) at e) (small-length (b - 0x50) (omega arith) (omega arith))
    go false false false false true false p= q= r= s= u= v= =
        absurd (op≢push (read_first (op b) (decode_from between bs) (rw (p=, q=, r=, s=, u=, v=) at e)))
    go false false false false false v p= q= r= s= u= v= =
        absurd (op≢push (read_first (op b) (decode_from between bs) (rw (p=, q=, r=, s=, u=) at e)))
