-- What one rule makes of figures that have entered is a candidate; a candidate is small; a candidate that is locally valid enters.
-- Assumes nothing.
use Rattle.figures.specs.declared.SatData.{SatData}
use Rattle.std.specs.Prelude.{Option, None, Some}
use mathlib.Core.Path.{◌≡◌, refl}
use mathlib.Core.Bool.{Bool, true, false, not, ◌&&◌}
use Prim.Native.Nat.{ℕ, ◌+◌, ◌*◌, ◌<◌, ◌≤◌}
use native.Mathlib.Omega.{arith}
use borrow.Author.Tests.{leb-true}
use lib.Dec.{leb, eqb}
use Rattle.contexts.specs.declared.Context.{Context}
use Rattle.contexts.specs.declared.Context.TheVariants.{Segwitv0, Tap}
use Rattle.figures.specs.declared.ExtData.{ExtData}
use Rattle.figures.specs.Bounds.{limit, Small, SmallSat, WithinSat, Entered, Candidate}
use Rattle.figures.specs.Rules.{max, false_ext, true_ext, pk_k, pk_h, multi, multi_a}
use Rattle.figures.specs.Rules.{sha256, hash256, ripemd160, hash160, after, older}
use Rattle.figures.specs.Rules.{cast_alt, cast_swap, cast_check, cast_dupif, cast_verify, cast_nonzero, cast_zeronotequal}
use Rattle.figures.specs.Rules.{cast_true, cast_unlikely, cast_likely, and_b, and_v, or_b, or_d, or_c, or_i, and_or}
use Rattle.figures.specs.Validity.{check_local_validity, global_consensus, global_policy, local_consensus, local_policy, Multi}
use Rattle.figures.specs.Validity.{MAX-BLOCK-WEIGHT, MAX-STANDARD-P2WSH-SCRIPT-SIZE}
use Rattle.figures.proofs.Few.{max-le, num-le, num-cost-le, num-size-le, key-le}
use Rattle.figures.proofs.Within.{false-within, true-within, pk-k-within, pk-h-within, multi-within, multi-a-within}
use Rattle.figures.proofs.Within.{sha256-within, hash256-within, ripemd160-within, hash160-within, after-within, older-within}
use Rattle.figures.proofs.Within.{alt-within, swap-within, check-within, dupif-within, verify-within, nonzero-within}
use Rattle.figures.proofs.Within.{zeronotequal-within}
use Rattle.figures.proofs.Within.{and-b-within, and-v-within, or-b-within, or-d-within, or-c-within, or-i-within, and-or-within}

both_true : (a b : Bool) → a && b ≡ true → (a ≡ true) × (b ≡ true)
both_true true b h = (refl, h)
both_true false b h = (h, cc)

-- the first two of four tests
first_two : (a b c d : Bool) → a && b && c && d ≡ true → (a ≡ true) × (b ≡ true)
first_two a b c d h = both_true a b (both_true (a && b) c (both_true (a && b && c) d h).0).0

pub valid-cost : (c : Context) (kind : ℕ) (x : ExtData) → check_local_validity c kind x ≡ true → x.pk_cost ≤ MAX-BLOCK-WEIGHT
unfolding check_local_validity
valid-cost Segwitv0 kind x h =
    let t = first_two (global_consensus Segwitv0 kind x) (global_policy Segwitv0 x) (local_consensus Segwitv0 x) (local_policy Segwitv0 x) h in
    omega (arith, leb-true x.pk_cost MAX-STANDARD-P2WSH-SCRIPT-SIZE t.1)
valid-cost Tap kind x h =
    let t = first_two (global_consensus Tap kind x) (global_policy Tap x) (local_consensus Tap x) (local_policy Tap x) h in
    leb-true x.pk_cost MAX-BLOCK-WEIGHT (both_true (not (eqb kind Multi)) (leb x.pk_cost MAX-BLOCK-WEIGHT) t.0).1

pub small-sat : (s : Option SatData) (n : ℕ) → n ≤ 17 * MAX-BLOCK-WEIGHT → WithinSat n s → SmallSat s
small-sat (Some d) n le w = omega arith
small-sat None n le w = tt

pub candidate-small : {h : ℕ} {x : ExtData} → Candidate h x → h < limit → Small x
candidate-small {h} {x} b le =
    record {
      cost = omega arith;
      static = omega (arith, b.within.static);
      height = omega arith;
      sat = small-sat x.sat_data x.pk_cost b.cost b.within.sat;
      dissat = small-sat x.dissat_data x.pk_cost b.cost b.within.dissat;
    }

pub entered-candidate : {h : ℕ} {x : ExtData} → Entered h x → Candidate h x
entered-candidate e = record { within = e.within; cost = omega (arith, e.cost); low = e.low }

pub entered-small : {h : ℕ} {x : ExtData} → Entered h x → h < limit → Small x
entered-small e le = candidate-small (entered-candidate e) le

pub valid-entered : (c : Context) (kind : ℕ) {h : ℕ} {x : ExtData} → Candidate h x → check_local_validity c kind x ≡ true → Entered h x
valid-entered c kind {h} {x} b v = record { within = b.within; cost = valid-cost c kind x v; low = b.low }

pub entered-higher : {g h : ℕ} {x : ExtData} → g ≤ h → Entered g x → Entered h x
entered-higher le e = record { within = e.within; cost = e.cost; low = omega (arith, e.low) }

-- leaves

pub false-entered : (h : ℕ) → Entered h false_ext
unfolding false_ext
false-entered h = record { within = false-within; cost = omega arith; low = omega arith }

pub true-entered : (h : ℕ) → Entered h true_ext
unfolding true_ext
true-entered h = record { within = true-within; cost = omega arith; low = omega arith }

pub pk-k-candidate : (h : ℕ) (c : Context) → Candidate h (pk_k c)
unfolding pk_k
pk-k-candidate h c = record { within = pk-k-within c; cost = omega (arith, key-le c); low = omega arith }

pub pk-h-candidate : (h : ℕ) (c : Context) → Candidate h (pk_h c)
unfolding pk_h
pk-h-candidate h c = record { within = pk-h-within c; cost = omega arith; low = omega arith }

pub multi-candidate : (h k n : ℕ) → k ≤ n → n ≤ 16 → Candidate h (multi k n)
unfolding multi
multi-candidate h k n le few = record { within = multi-within k n le; cost = omega (arith, num-cost-le k n); low = omega arith }

pub multi-a-candidate : (h k n : ℕ) → 1 ≤ k → k ≤ n → n ≤ 16 → Candidate h (multi_a k n)
unfolding multi_a
multi-a-candidate h k n one le few =
    record { within = multi-a-within k n one le; cost = omega (arith, num-cost-le k n); low = omega arith }

pub sha256-candidate : (h : ℕ) → Candidate h sha256
unfolding sha256
sha256-candidate h = record { within = sha256-within; cost = omega arith; low = omega arith }

pub hash256-candidate : (h : ℕ) → Candidate h hash256
unfolding hash256
hash256-candidate h = record { within = hash256-within; cost = omega arith; low = omega arith }

pub ripemd160-candidate : (h : ℕ) → Candidate h ripemd160
unfolding ripemd160
ripemd160-candidate h = record { within = ripemd160-within; cost = omega arith; low = omega arith }

pub hash160-candidate : (h : ℕ) → Candidate h hash160
unfolding hash160
hash160-candidate h = record { within = hash160-within; cost = omega arith; low = omega arith }

pub after-candidate : (h t : ℕ) → Candidate h (after t)
unfolding after
after-candidate h t = record { within = after-within t; cost = omega (arith, num-size-le t); low = omega arith }

pub older-candidate : (h t : ℕ) → Candidate h (older t)
unfolding older
older-candidate h t = record { within = older-within t; cost = omega (arith, num-size-le t); low = omega arith }

-- casts

module _ {h : ℕ} {x : ExtData} (e : Entered h x) where
  pub alt-candidate : Candidate (h + 1) (cast_alt x)
  unfolding cast_alt
  alt-candidate = record { within = alt-within x e.within; cost = omega (arith, e.cost); low = omega (arith, e.low) }

  pub swap-candidate : Candidate (h + 1) (cast_swap x)
  unfolding cast_swap
  swap-candidate = record { within = swap-within x e.within; cost = omega (arith, e.cost); low = omega (arith, e.low) }

  pub check-candidate : Candidate (h + 1) (cast_check x)
  unfolding cast_check
  check-candidate = record { within = check-within x e.within; cost = omega (arith, e.cost); low = omega (arith, e.low) }

  pub dupif-candidate : Candidate (h + 1) (cast_dupif x)
  unfolding cast_dupif
  dupif-candidate = record { within = dupif-within x e.within; cost = omega (arith, e.cost); low = omega (arith, e.low) }

  pub verify-candidate : Candidate (h + 1) (cast_verify x)
  unfolding cast_verify
  verify-candidate =
      record {
        within = verify-within x e.within;
        cost = omega (arith, e.cost, num-le (not x.has_free_verify));
        low = omega (arith, e.low);
      }

  pub nonzero-candidate : Candidate (h + 1) (cast_nonzero x)
  unfolding cast_nonzero
  nonzero-candidate = record { within = nonzero-within x e.within; cost = omega (arith, e.cost); low = omega (arith, e.low) }

  pub zeronotequal-candidate : Candidate (h + 1) (cast_zeronotequal x)
  unfolding cast_zeronotequal
  zeronotequal-candidate = record { within = zeronotequal-within x e.within; cost = omega (arith, e.cost); low = omega (arith, e.low) }

-- pairs

module _ {h : ℕ} {l r : ExtData} (p : Entered h l) (q : Entered h r) where
  low-pair : 1 + max l.tree_height r.tree_height ≤ h + 1
  low-pair = omega (arith, max-le l.tree_height r.tree_height p.low q.low)

  pub and-b-candidate : Candidate (h + 1) (and_b l r)
  unfolding and_b
  and-b-candidate =
      record { within = and-b-within l r p.within q.within; cost = omega (arith, p.cost, q.cost); low = low-pair }

  pub and-v-candidate : Candidate (h + 1) (and_v l r)
  unfolding and_v
  and-v-candidate =
      record { within = and-v-within l r p.within q.within; cost = omega (arith, p.cost, q.cost); low = low-pair }

  pub or-b-candidate : Candidate (h + 1) (or_b l r)
  unfolding or_b
  or-b-candidate =
      record { within = or-b-within l r p.within q.within; cost = omega (arith, p.cost, q.cost); low = low-pair }

  pub or-d-candidate : Candidate (h + 1) (or_d l r)
  unfolding or_d
  or-d-candidate =
      record { within = or-d-within l r p.within q.within; cost = omega (arith, p.cost, q.cost); low = low-pair }

  pub or-c-candidate : Candidate (h + 1) (or_c l r)
  unfolding or_c
  or-c-candidate =
      record { within = or-c-within l r p.within q.within; cost = omega (arith, p.cost, q.cost); low = low-pair }

  pub or-i-candidate : Candidate (h + 1) (or_i l r)
  unfolding or_i
  or-i-candidate =
      record { within = or-i-within l r p.within q.within; cost = omega (arith, p.cost, q.cost); low = low-pair }

pub cast-true-candidate : {h : ℕ} {x : ExtData} → Entered h x → Candidate (h + 1) (cast_true x)
unfolding cast_true
cast-true-candidate {h} e = and-v-candidate e (true-entered h)

pub cast-unlikely-candidate : {h : ℕ} {x : ExtData} → Entered h x → Candidate (h + 1) (cast_unlikely x)
unfolding cast_unlikely
cast-unlikely-candidate {h} e = or-i-candidate e (false-entered h)

pub cast-likely-candidate : {h : ℕ} {x : ExtData} → Entered h x → Candidate (h + 1) (cast_likely x)
unfolding cast_likely
cast-likely-candidate {h} e = or-i-candidate (false-entered h) e

pub and-or-candidate : {h : ℕ} {a b c : ExtData} → Entered h a → Entered h b → Entered h c → Candidate (h + 1) (and_or a b c)
unfolding and_or
and-or-candidate {h} {a} {b} {c} p q r =
    record {
      within = and-or-within a b c p.within q.within r.within;
      cost = omega (arith, p.cost, q.cost, r.cost);
      low =
          omega (
            arith,
            max-le a.tree_height (max b.tree_height c.tree_height) p.low
                (max-le b.tree_height c.tree_height q.low r.low),
          );
    }
