-- The signatures of k of some keys: what they weigh, and that there are such exactly if there are k keys. Assumes nothing.
use Rattle.std.specs.Prelude.{None}
use Prim.Native.Nat.{ℕ, zero, suc, ◌+◌, ◌*◌, ◌-◌, ◌≤◌}
use mathlib.Core.Bool.{Bool, true, false, cond}
use mathlib.Core.List.{List, [], ◌∷◌, ◌++◌}
use mathlib.Core.Path.{◌≡◌, refl}
use native.Mathlib.Omega.{arith}
use borrow.Author.Tests.{leb-true, leb-false}
use lib.Dec.{leb}
use lib.ListN.{length, replicate}
use Rattle.contexts.specs.declared.Context.{Context}
use Rattle.contexts.specs.Lists.{sum}
use Rattle.witness_ways.specs.Elements.{Witness, signature_bytes, signature, empty, bytes_of}
use Rattle.witness_ways.specs.Ways.{Picked, all-picked, pick, pass, Placed, all_placed, signed, unsigned}
use Rattle.witness_ways.specs.Spends.{Met}
use Rattle.witness_ways.specs.Extremes.{just, some_of, Spans, no_way, spans}
use Rattle.witness_ways.proofs.Spans.{bytes-append}

-- ---- ways that all weigh the same, and are there exactly if a test says so

module _ {c : Context} {way : Witness → Type 0} where
  pub same-spans : (k n bytes : ℕ) → (k ≤ n → (w : Witness) × way w) → ((w : Witness) → way w → k ≤ n) → ((w : Witness) → way w → bytes_of c w ≡ bytes)
      → Spans c way (some_of k n bytes)
  same-spans k n bytes there few weighs = by-test (leb k n) refl
    where
      by-test : (b : Bool) → leb k n ≡ b → Spans c way (cond b (just bytes) None)
      by-test false t = no_way (λ w p. omega (arith, few w p, leb-false k n t))
      by-test true t =
          let it = there (leb-true k n t) in
          let met : Met c way bytes = record { witness = it.0; is = it.1; weighs = weighs it.0 it.1 } in
          spans (record { fewest = met; most = met; from = λ w p. omega (arith, weighs w p); to = λ w p. omega (arith, weighs w p) })

module _ (c : Context) where
  pub empties-weigh : (n : ℕ) → bytes_of c (replicate n empty) ≡ n
  unfolding sum
  empties-weigh zero = refl
  empties-weigh (suc n) = omega (arith, empties-weigh n)

  -- ---- Multi

  picked-few : {k : ℕ} {keys : List ℕ} {w : Witness} → Picked k keys w → k ≤ length keys
  picked-few all-picked = omega arith
  picked-few (pick n p) = omega (arith, picked-few p)
  picked-few (pass n p) = omega (arith, picked-few p)

  picked-weigh : {k : ℕ} {keys : List ℕ} {w : Witness} → Picked k keys w → bytes_of c w ≡ k * signature_bytes c
  unfolding sum
  picked-weigh all-picked = omega arith
  picked-weigh (pick n p) = omega (arith, picked-weigh p)
  picked-weigh (pass n p) = picked-weigh p

  -- the first k keys sign
  picked-there : (k : ℕ) (keys : List ℕ) → k ≤ length keys → (w : Witness) × Picked k keys w
  picked-there zero [] h = ([], all-picked)
  picked-there (suc k) [] h = absurd (omega arith)
  picked-there zero (n ∷ keys) h = let rest = picked-there zero keys (omega arith) in (rest.0, pass n rest.1)
  picked-there (suc k) (n ∷ keys) h = let rest = picked-there k keys (omega arith) in (signature n ∷ rest.0, pick n rest.1)

  pub picked-spans : (k : ℕ) (keys : List ℕ) → Spans c (Picked k keys) (some_of k (length keys) (k * signature_bytes c))
  picked-spans k keys = same-spans k (length keys) (k * signature_bytes c) (picked-there k keys) (λ w p. picked-few p) (λ w p. picked-weigh p)

  -- ---- MultiA

  placed-few : {k : ℕ} {keys : List ℕ} {w : Witness} → Placed k keys w → k ≤ length keys
  placed-few all_placed = omega arith
  placed-few (signed n p) = omega (arith, placed-few p)
  placed-few (unsigned n p) = omega (arith, placed-few p)

  placed-weigh : {k : ℕ} {keys : List ℕ} {w : Witness} → Placed k keys w → bytes_of c w ≡ k * signature_bytes c + (length keys - k)
  unfolding sum
  placed-weigh all_placed = omega arith
  placed-weigh (signed {w} n p) = omega (arith, bytes-append c w (signature n ∷ []), placed-weigh p)
  placed-weigh (unsigned {w} n p) = omega (arith, bytes-append c w (empty ∷ []), placed-few p, placed-weigh p)

  placed-there : (k : ℕ) (keys : List ℕ) → k ≤ length keys → (w : Witness) × Placed k keys w
  placed-there zero [] h = ([], all_placed)
  placed-there (suc k) [] h = absurd (omega arith)
  placed-there zero (n ∷ keys) h = let rest = placed-there zero keys (omega arith) in (rest.0 ++ (empty ∷ []), unsigned n rest.1)
  placed-there (suc k) (n ∷ keys) h = let rest = placed-there k keys (omega arith) in (rest.0 ++ (signature n ∷ []), signed n rest.1)

  pub placed-spans : (k : ℕ) (keys : List ℕ)
      → Spans c (Placed k keys) (some_of k (length keys) (k * signature_bytes c + (length keys - k)))
  placed-spans k keys =
      same-spans k (length keys) (k * signature_bytes c + (length keys - k)) (placed-there k keys) (λ w p. placed-few p) (λ w p. placed-weigh p)
