-- Extremes below a bound: of their parts, of sums and of a choice. Assumes nothing.
use Rattle.std.specs.Prelude.{None, Some}
use Prim.Native.Nat.{ℕ, ◌+◌, ◌*◌, ◌≤◌, ◌<◌}
use mathlib.Core.Bool.{Bool, true, false, cond}
use mathlib.Core.Path.{◌≡◌}
use native.Mathlib.Omega.{arith}
use lib.Dec.{leb}
use Rattle.contexts.specs.declared.Context.{Context}
use Rattle.contexts.specs.declared.Context.TheVariants.{Segwitv0, Tap}
use Rattle.witness_ways.specs.declared.Bytes.{Bytes}
use Rattle.witness_ways.specs.Elements.{signature_bytes, key_bytes}
use Rattle.witness_ways.specs.Extremes.{Extremes, ◌and◌, ◌or◌, just, some_of}
use Rattle.witness_rules.specs.Bounds.{Below, none, both, small, large}

-- ---- the parts

pub both-parts : {bound : ℕ} {x : Bytes} → Below bound (Some x) → (x.fewest ≤ bound) × (x.most ≤ bound)
both-parts (both h k) = (h, k)

pub looser : {m n : ℕ} {e : Extremes} → m ≤ n → Below m e → Below n e
looser l none = none
looser l (both h k) = both (omega arith) (omega arith)

pub loose : {e : Extremes} → Below small e → Below large e
loose h = looser (omega arith) h

-- ---- sums and choices

pub below-and : {m n : ℕ} {x y : Extremes} → Below m x → Below n y → Below (m + n) (x and y)
below-and none k = none
below-and (both h₁ h₂) none = none
below-and (both h₁ h₂) (both k₁ k₂) = both (omega arith) (omega arith)

pub below_or : {m : ℕ} {x y : Extremes} → Below m x → Below m y → Below m (x or y)
below_or none k = k
below_or (both h₁ h₂) none = both h₁ h₂
below_or (both h₁ h₂) (both k₁ k₂) = both (omega arith) (omega arith)

-- ---- elements

pub signature-few : (c : Context) → signature_bytes c ≤ 73
signature-few Segwitv0 = omega arith
signature-few Tap = omega arith

pub key-few : (c : Context) → key_bytes c ≤ 34
key-few Segwitv0 = omega arith
key-few Tap = omega arith

pub signatures-few : (c : Context) {k s : ℕ} → k < 65536 → s ≡ signature_bytes c → k * s ≤ 4784055
signatures-few Segwitv0 h e = rw e (omega arith)
signatures-few Tap h e = rw e (omega arith)

-- what k of n keys sign with
pub below-some : (k n : ℕ) {bytes bound : ℕ} → bytes ≤ bound → Below bound (some_of k n bytes)
below-some k n {bytes} {bound} h = by-test (leb k n)
  where
    by-test : (b : Bool) → Below bound (cond b (just bytes) None)
    by-test true = both h h
    by-test false = none

pub just-below : (n : ℕ) {bound : ℕ} → n ≤ bound → Below bound (just n)
just-below n h = both h h
