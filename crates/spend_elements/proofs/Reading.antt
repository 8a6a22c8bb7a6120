-- At most four bytes are read as a number.
use Prim.Native.Nat.{ℕ, zero, suc, ◌+◌, ◌*◌, ◌-◌, ◌%◌, ◌≤◌, ◌<◌}
use native.Mathlib.Omega.{arith}
use mathlib.Core.Bool.{Bool, true, false, cond}
use mathlib.Core.List.{[], ◌∷◌}
use mathlib.Core.Path.{◌≡◌, refl, ◌∙◌, sym, ap}
use borrow.Author.Tests.{le-leb, lt-leb, leb-true, leb-false}
use lib.Dec.{leb}
use lib.IntN.{ℤ, pos, neg_ℤ}
use lib.ListN.{length, get_or}
use Rattle.script_machine.specs.Numbers.{Bytes, read, magnitude, negative}
use Rattle.spend_elements.specs.Signed.{sign_bit, Valued}

-- v and its sign bit tell how x is read
pub record Reads (x : Bytes) (v bit : ℕ) : Type 0 where
  pub low : v < bit → read x ≡ pos v
  pub high : bit ≤ v → read x ≡ neg_ℤ (pos (v - bit))
  pub less : v < bit → v < 2147483648
  pub rest : v - bit < 2147483648

-- the last byte has the sign
reads : (x : Bytes) (v bit : ℕ) → v < bit + bit → bit ≤ 2147483648 → negative x ≡ leb bit v → (v < bit → magnitude x ≡ v) → (bit ≤ v → magnitude x ≡ v - bit)
    → Reads x v bit
unfolding read
reads x v bit less few n low high =
    record {
      low = λ h. rw (n, lt-leb bit v h, low h);
      high = λ h. rw (n, le-leb bit v h, high h);
      less = λ h. omega arith;
      rest = omega arith;
    }

leb_as : (a b c d : ℕ) → (a ≤ b → c ≤ d) → (b < a → d < c) → leb a b ≡ leb c d
leb_as a b c d p q = go (leb a b) refl
  where
    go : (t : Bool) → leb a b ≡ t → t ≡ leb c d
    go true e = sym (le-leb c d (p (leb-true a b e)))
    go false e = sym (lt-leb c d (q (leb-false a b e)))

pub reads_as : (x : Bytes) (v bit : ℕ) → length x ≤ 4 → Valued x v → bit ≡ sign_bit (length x) → Reads x v bit
unfolding magnitude negative
reads_as [] v bit l h e = let z = h.is in rw (e, z) (reads [] 0 1 (omega arith) (omega arith) refl (λ _. refl) (λ k. absurd (omega arith)))
reads_as (b ∷ []) v bit l h e =
    let is = h.is in let b0 = h.byte0 in
    rw e (reads (b ∷ []) v 128 (omega arith) (omega arith) (leb_as 128 b 128 v (λ k. omega arith) (λ k. omega arith)) (λ k. omega arith) (λ k. omega arith))
reads_as (b ∷ c ∷ []) v bit l h e =
    let is = h.is in let b0 = h.byte0 in let b1 = h.byte1 in
    rw e (reads (b ∷ c ∷ []) v 32768 (omega arith) (omega arith) (leb_as 128 c 32768 v (λ k. omega arith) (λ k. omega arith)) (λ k. omega arith)
    (λ k. omega arith))
reads_as (b ∷ c ∷ d ∷ []) v bit l h e =
    let is = h.is in let b0 = h.byte0 in let b1 = h.byte1 in let b2 = h.byte2 in
    rw e (reads (b ∷ c ∷ d ∷ []) v 8388608 (omega arith) (omega arith) (leb_as 128 d 8388608 v (λ k. omega arith) (λ k. omega arith)) (λ k. omega arith)
    (λ k. omega arith))
reads_as (b ∷ c ∷ d ∷ f ∷ []) v bit l h e =
    let is = h.is in let b0 = h.byte0 in let b1 = h.byte1 in let b2 = h.byte2 in let b3 = h.byte3 in
    rw e (reads (b ∷ c ∷ d ∷ f ∷ []) v 2147483648 (omega arith) (omega arith) (leb_as 128 f 2147483648 v (λ k. omega arith) (λ k. omega arith))
    (λ k. omega arith) (λ k. omega arith))
reads_as (b ∷ c ∷ d ∷ f ∷ g ∷ x) v bit l h e = absurd (omega arith)
