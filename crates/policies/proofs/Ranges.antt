-- A fact about each number of a range, from the numbers one by one. Assumes nothing.
use mathlib.Core.Path.{◌≡◌, refl, sym, subst}
use mathlib.Core.Bool.{Bool, true, false}
use Prim.Native.Nat.{ℕ, zero, suc, ◌+◌, ◌<◌, ◌≤◌}
use native.Mathlib.Omega.{arith}
use borrow.Author.Tests.{eqb-true, eqb-false}
use lib.Dec.{eqb}

abbrev pub Each : (ℕ → Type 0) → (low n : ℕ) → Type 0
Each P low zero = Unit {0}
Each P low (suc n) = P low × Each P (suc low) n

pub each : (P : ℕ → Type 0) (low n : ℕ) → Each P low n → (k : ℕ) → low ≤ k → k < low + n → P k
each P low zero all k l u = absurd (omega arith)
each P low (suc n) all k l u = by-test (each P (suc low) n all.1 k) (eqb k low) refl
  where
    by-test : (suc low ≤ k → k < suc low + n → P k) → (t : Bool) → eqb k low ≡ t → P k
    by-test next true e = subst P (sym (eqb-true k low e)) all.0
    by-test next false e = let ne = eqb-false k low e in next (omega arith) (omega arith)
