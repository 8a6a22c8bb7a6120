-- Counts in planes: none counted, one more counted. Assumes nothing.
use Prim.Native.Nat.{ℕ, zero, suc, ◌+◌, ◌-◌, ◌≤◌, ◌<◌}
use mathlib.Core.Bool.{Bool, true, false, ◌&&◌, ◌||◌}
use mathlib.Core.List.{List}
use mathlib.Core.Path.{◌≡◌, refl, sym, ap, ◌∙◌}
use native.Mathlib.Omega.{arith}
use borrow.Author.Tests.{leb-true, leb-false, le-leb, lt-leb, eqb-true, eqb-false}
use lib.Bits.{bit_and, bit_or}
use lib.Dec.{eqb, leb}
use lib.ListN.{length, get_or, set, replicate, length-set, get_or-replicate}
use lib.Seq.{get_or-set_same, get_or-set_other}
use Rattle.contexts.specs.Lists.{one}
use Rattle.truth.specs.Words.{bit_at, Planes, OneMore}
use Rattle.truth.proofs.BitLaws.{bit-and, bit-or, bit-all, bit-none}

-- ---- none counted

pub planes-none : Planes (set (replicate {A = ℕ} 17 0) 0 18446744073709551615) (λ j. 0)
planes-none = record { long = refl; each = each }
  where
    each : (t j : ℕ) → t < 17 → j < 64 → bit_at (get_or (set (replicate {A = ℕ} 17 0) 0 18446744073709551615) t 0) j ≡ leb t 0
    each zero j l h = bit-all j h ∙ sym (le-leb 0 0 (omega arith))
    each (suc t) j l h =
        let z : get_or (set (replicate {A = ℕ} 17 0) 0 18446744073709551615) (suc t) 0 ≡ 0 =
        get_or-set_other (replicate {A = ℕ} 17 0) 0 (suc t) 18446744073709551615 0 (λ e. omega arith) ∙ get_or-replicate 17 (suc t) 0 0 l in
        ap (λ (w : ℕ). bit_at w j) z ∙ bit-none j h ∙ sym (lt-leb (suc t) 0 (omega arith))

-- ---- one more

or-both : (a b c : Bool) → (a ≡ true → c ≡ true) → (b ≡ true → c ≡ true) → (a ≡ false → b ≡ false → c ≡ false) → a || b ≡ c
or-both true b c p q r = sym (p refl)
or-both false true c p q r = sym (q refl)
or-both false false c p q r = sym (r refl refl)

and-false : (a : Bool) → a && false ≡ false
and-false true = refl
and-false false = refl

and-true : (a : Bool) → a && true ≡ a
and-true true = refl
and-true false = refl

or-false : (a : Bool) → a || false ≡ a
or-false true = refl
or-false false = refl

step : (t c : ℕ) (b : Bool) → leb (suc t) c || (leb t c && b) ≡ leb (suc t) (one b + c)
step t c true =
    ap (λ (x : Bool). leb (suc t) c || x) (and-true (leb t c))
    ∙ or-both (leb (suc t) c) (leb t c) (leb (suc t) (1 + c))
    (λ e. le-leb (suc t) (1 + c) (omega (arith, leb-true (suc t) c e)))
    (λ e. le-leb (suc t) (1 + c) (omega (arith, leb-true t c e)))
    (λ d e. lt-leb (suc t) (1 + c) (omega (arith, leb-false t c e)))
step t c false =
    let z : 0 + c ≡ c = omega arith in
    ap (λ (x : Bool). leb (suc t) c || x) (and-false (leb t c)) ∙ or-false (leb (suc t) c) ∙ sym (ap (leb (suc t)) z)

pub planes-more : {planes next : List ℕ} {x : ℕ} {c : ℕ → ℕ} → Planes planes c → OneMore planes x next → Planes next (λ j. one (bit_at x j) + c j)
planes-more {planes} {next} {x} {c} p o = record { long = o.long; each = each }
  where
    each : (t j : ℕ) → t < 17 → j < 64 → bit_at (get_or next t 0) j ≡ leb t (one (bit_at x j) + c j)
    each zero j l h = ap (λ (w : ℕ). bit_at w j) o.first ∙ p.each 0 j l h ∙ le-leb 0 (c j) (omega arith) ∙ sym (le-leb 0 (one (bit_at x j) + c j) (omega arith))
    each (suc t) j l h =
        ap (λ (w : ℕ). bit_at w j) (o.others t (omega arith))
        ∙ bit-or (get_or planes (suc t) 0) (bit_and (get_or planes t 0) x) j
        ∙ ap (λ (b : Bool). bit_at (get_or planes (suc t) 0) j || b) (bit-and (get_or planes t 0) x j)
        ∙ ap (λ (b : Bool). b || (bit_at (get_or planes t 0) j && bit_at x j)) (p.each (suc t) j l h)
        ∙ ap (λ (b : Bool). leb (suc t) (c j) || (b && bit_at x j)) (p.each t j (omega arith) h)
        ∙ step t (c j) (bit_at x j)

pub planes-same : {planes : List ℕ} {c d : ℕ → ℕ} → Planes planes c → ((j : ℕ) → j < 64 → c j ≡ d j) → Planes planes d
planes-same p e = record { long = p.long; each = λ t j l h. p.each t j l h ∙ ap (leb t) (e j h) }

-- ---- the loop

pub record OneOn (planes : List ℕ) (x : ℕ) (next : List ℕ) (t : ℕ) : Type 0 where
  pub from : 1 ≤ t
  pub upto : t ≤ 17
  pub long : length next ≡ 17
  pub first : get_or next 0 0 ≡ get_or planes 0 0
  pub done : (s : ℕ) → suc s < t → get_or next (suc s) 0 ≡ bit_or (get_or planes (suc s) 0) (bit_and (get_or planes s 0) x)

pub one-begin : (planes : List ℕ) (x : ℕ) → length planes ≡ 17 → OneOn planes x planes 1
one-begin planes x l =
    record { from = omega arith; upto = omega arith; long = l; first = refl; done = λ s h. absurd (omega arith) }

pub one-next : {planes next : List ℕ} {x t : ℕ} → OneOn planes x next t → t < 17
    → OneOn planes x (set next t (bit_or (get_or planes t 0) (bit_and (get_or planes (t - 1) 0) x))) (t + 1)
one-next {planes} {next} {x} {t} on l =
    record {
      from = omega arith;
      upto = omega arith;
      long = length-set next t _ ∙ on.long;
      first = get_or-set_other next t 0 _ 0 (λ e. omega (arith, on.from)) ∙ on.first;
      done = λ s h. by_place s (eqb (suc s) t) refl h;
    }
  where
    by_place : (s : ℕ) (b : Bool) → eqb (suc s) t ≡ b → suc s < t + 1
        → get_or (set next t (bit_or (get_or planes t 0) (bit_and (get_or planes (t - 1) 0) x))) (suc s) 0
        ≡ bit_or (get_or planes (suc s) 0) (bit_and (get_or planes s 0) x)
    by_place s true e h =
        let same = eqb-true (suc s) t e in
        let less : t - 1 ≡ s = omega arith in
        rw (same, less) (get_or-set_same next t (bit_or (get_or planes t 0) (bit_and (get_or planes s 0) x)) 0 (omega (arith, on.long)))
    by_place s false e h =
        get_or-set_other next t (suc s) _ 0 (eqb-false (suc s) t e) ∙ on.done s (omega (arith, eqb-false (suc s) t e))

pub one-done : {planes next : List ℕ} {x t : ℕ} → OneOn planes x next t → 17 ≤ t → OneMore planes x next
one-done on l = record { long = on.long; first = on.first; others = λ s h. on.done s (omega arith) }
