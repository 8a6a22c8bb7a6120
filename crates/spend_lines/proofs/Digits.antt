-- Numbers in decimal: what std's formatting spells is the definition's text. Assumes nothing.
use Prim.Native.Nat.{ℕ, zero, suc, ◌+◌, ◌/◌, ◌%◌, ◌^◌, ◌≤◌, ◌<◌}
use mathlib.Core.Bool.{Bool, true, false, cond}
use mathlib.Core.List.{List, [], ◌∷◌, ◌++◌}
use mathlib.Core.Path.{◌≡◌, sym, ap}
use native.Mathlib.Nat.{pow-suc}
use native.Mathlib.Omega.{arith}
use borrow.Author.Tests.{lt-ltb, le-ltb}
use lib.Dec.{ltb}
use lib.ListN.{length, length-append}
use Rattle.std.specs.Fmt as Fmt
use Rattle.std.proofs.lemmas.Fmt.{decimal_by_steps}
use Rattle.spend_lines.specs.Lines.{digits_in}

-- what std writes of a number below a power of ten
spelled_below : (n : ℕ) → n < 2 ^ 64 → (m : ℕ) → 0 < m → n < 10 ^ m → digits_in m n ≡ Fmt.decimal n
unfolding digits_in
spelled_below n h = decimal_by_steps (λ k ds. (m : ℕ) → 0 < m → k < 10 ^ m → digits_in m k ≡ ds) few more n h
  where
    few : (k : ℕ) → k < 10 → (m : ℕ) → 0 < m → k < 10 ^ m → digits_in m k ≡ (48 + k) ∷ []
    few k l zero p q = absurd (omega (arith, p))
    few k l (suc m) p q = rw (lt-ltb k 10 l)

    more : (k : ℕ) (ds : List ℕ) → 10 ≤ k → ((m : ℕ) → 0 < m → k / 10 < 10 ^ m → digits_in m (k / 10) ≡ ds)
        → (m : ℕ) → 0 < m → k < 10 ^ m → digits_in m k ≡ ds ++ ((48 + k % 10) ∷ [])
    more k ds l by zero p q = absurd (omega (arith, p))
    more k ds l by (suc zero) p q = absurd (omega (arith, l, q))
    more k ds l by (suc (suc m)) p q =
        let rest : k / 10 < 10 ^ suc m = omega (arith, q, pow-suc 10 (suc m)) in
        rw (le-ltb k 10 l) (ap (λ (t : List ℕ). t ++ ((48 + k % 10) ∷ [])) (by (suc m) (omega arith) rest))

-- what std writes of a number of 64 bits is the definition's text
pub spelled : (n : ℕ) → n < 2 ^ 64 → Fmt.decimal n ≡ digits_in 20 n
spelled n h = sym (spelled_below n h 20 (omega arith) (omega (arith, h)))

pub digits-short : (m n : ℕ) → length (digits_in m n) ≤ m
unfolding digits_in
digits-short zero n = omega arith
digits-short (suc m) n = go (ltb n 10) (digits-short m (n / 10))
  where
    go : (t : Bool) → length (digits_in m (n / 10)) ≤ m → length (cond t ((48 + n) ∷ []) (digits_in m (n / 10) ++ ((48 + n % 10) ∷ []))) ≤ suc m
    go true h = omega arith
    go false h = omega (arith, length-append (digits_in m (n / 10)) ((48 + n % 10) ∷ []), h)
