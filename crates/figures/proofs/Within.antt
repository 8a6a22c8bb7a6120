-- Every rule keeps `Within`. Assumes nothing.
use Rattle.figures.specs.declared.SatData.{SatData}
use Rattle.std.specs.Prelude.{Option, None, Some}
use mathlib.Core.Bool.{not}
use Prim.Native.Nat.{ℕ, ◌+◌, ◌≤◌}
use native.Mathlib.Omega.{arith}
use Rattle.contexts.specs.declared.Context.{Context}
use Rattle.contexts.specs.declared.Context.TheVariants.{Segwitv0, Tap}
use Rattle.figures.specs.declared.ExtData.{ExtData}
use Rattle.figures.specs.Bounds.{WithinSat, Within}
use Rattle.figures.specs.Rules.{num, fieldwise_max_opt, map_sat, sat_concat}
use Rattle.figures.specs.Rules.{false_ext, true_ext, pk_k, pk_h, multi, multi_a}
use Rattle.figures.specs.Rules.{sha256, hash256, ripemd160, hash160, after, older}
use Rattle.figures.specs.Rules.{cast_alt, cast_swap, cast_check, dup_if, cast_dupif, cast_verify, cast_nonzero}
use Rattle.figures.specs.Rules.{cast_zeronotequal, cast_true, cast_unlikely, cast_likely}
use Rattle.figures.specs.Rules.{and_b, and_v, or_b, or_d, or_c, with0, with1, either_branch, or_i, and_or}
use Rattle.figures.proofs.Few.{max-le}

-- cases

pub more : (s : Option SatData) (m n : ℕ) → m ≤ n → WithinSat m s → WithinSat n s
more (Some d) m n le w = omega arith
more None m n le w = tt

pub max-within : (x y : Option SatData) (n : ℕ) → WithinSat n x → WithinSat n y → WithinSat n (fieldwise_max_opt x y)
max-within None y n v w = w
max-within (Some x) None n v w = v
max-within (Some x) (Some y) n v w =
    record {
      size = max-le _ _ v.size w.size;
      count = max-le _ _ v.count w.count;
      sig = max-le _ _ v.sig w.sig;
      stack = max-le _ _ v.stack w.stack;
      ops = max-le _ _ v.ops w.ops;
    }

pub concat-within : (kept : ℕ) (x y : Option SatData) (m n : ℕ) → WithinSat m x → WithinSat n y → WithinSat (m + n + kept) (sat_concat kept x y)
concat-within kept None y m n v w = tt
concat-within kept (Some x) None m n v w = tt
concat-within kept (Some x) (Some y) m n v w =
    omega (arith, max-le x.max_exec_stack_count (kept + y.max_exec_stack_count) {n = m + n + kept} (omega arith) (omega arith))

dup-if-within : (x : Option SatData) (n : ℕ) → WithinSat n x → WithinSat (n + 2) (map_sat dup_if x)
dup-if-within None n w = tt
dup-if-within (Some x) n w = omega (arith, max-le 1 x.max_exec_stack_count {n = n + 2} (omega arith) (omega arith))

with-0-within : (x : Option SatData) (n : ℕ) → WithinSat n x → WithinSat (n + 1) (map_sat with0 x)
with-0-within None n w = tt
with-0-within (Some x) n w = omega arith

with-1-within : (x : Option SatData) (n : ℕ) → WithinSat n x → WithinSat (n + 1) (map_sat with1 x)
with-1-within None n w = tt
with-1-within (Some x) n w = omega arith

either-within : (x y : Option SatData) (m n : ℕ) → WithinSat m x → WithinSat n y → WithinSat (m + n + 3) (either_branch x y)
either-within x y m n v w =
    max-within (map_sat with1 x) (map_sat with0 y) (m + n + 3)
    (more (map_sat with1 x) (m + 1) (m + n + 3) (omega arith) (with-1-within x m v))
    (more (map_sat with0 y) (n + 1) (m + n + 3) (omega arith) (with-0-within y n w))

-- leaves

pub false-within : Within false_ext
unfolding false_ext
false-within = omega arith

pub true-within : Within true_ext
unfolding true_ext
true-within = omega arith

pub pk-k-within : (c : Context) → Within (pk_k c)
unfolding pk_k
pk-k-within Segwitv0 = omega arith
pk-k-within Tap = omega arith

pub pk-h-within : (c : Context) → Within (pk_h c)
unfolding pk_h
pk-h-within Segwitv0 = omega arith
pk-h-within Tap = omega arith

pub multi-within : (k n : ℕ) → k ≤ n → Within (multi k n)
unfolding multi
multi-within k n le = omega arith

pub multi-a-within : (k n : ℕ) → 1 ≤ k → k ≤ n → Within (multi_a k n)
unfolding multi_a
multi-a-within k n one le = omega arith

pub sha256-within : Within sha256
unfolding sha256
sha256-within = omega arith

pub hash256-within : Within hash256
unfolding hash256
hash256-within = omega arith

pub ripemd160-within : Within ripemd160
unfolding ripemd160
ripemd160-within = omega arith

pub hash160-within : Within hash160
unfolding hash160
hash160-within = omega arith

pub after-within : (t : ℕ) → Within (after t)
unfolding after
after-within t = omega arith

pub older-within : (t : ℕ) → Within (older t)
unfolding older
older-within t = omega arith

-- casts

module _ (x : ExtData) (w : Within x) where
  -- the same cases over a script of some more bytes
  grown : (n : ℕ) → x.pk_cost ≤ n → WithinSat n x.sat_data × WithinSat n x.dissat_data
  grown n le = (more x.sat_data x.pk_cost n le w.sat, more x.dissat_data x.pk_cost n le w.dissat)

  pub alt-within : Within (cast_alt x)
  unfolding cast_alt
  alt-within = let g = grown (x.pk_cost + 2) (omega arith) in record { static = omega arith; sat = g.0; dissat = g.1 }

  pub swap-within : Within (cast_swap x)
  unfolding cast_swap
  swap-within = let g = grown (x.pk_cost + 1) (omega arith) in record { static = omega arith; sat = g.0; dissat = g.1 }

  pub check-within : Within (cast_check x)
  unfolding cast_check
  check-within = let g = grown (x.pk_cost + 1) (omega arith) in record { static = omega arith; sat = g.0; dissat = g.1 }

  pub dupif-within : Within (cast_dupif x)
  unfolding cast_dupif
  dupif-within =
      let n : ℕ = x.pk_cost in
      record {
        static = omega arith;
        dissat = omega arith;
        sat = more (map_sat dup_if x.sat_data) (n + 2) (n + 3) (omega arith) (dup-if-within x.sat_data n w.sat);
      }

  pub verify-within : Within (cast_verify x)
  unfolding cast_verify
  verify-within =
      record {
        static = omega arith;
        dissat = tt;
        sat = (grown (x.pk_cost + num (not x.has_free_verify)) (omega arith)).0;
      }

  pub nonzero-within : Within (cast_nonzero x)
  unfolding cast_nonzero
  nonzero-within = record { static = omega arith; sat = (grown (x.pk_cost + 4) (omega arith)).0; dissat = omega arith }

  pub zeronotequal-within : Within (cast_zeronotequal x)
  unfolding cast_zeronotequal
  zeronotequal-within =
      let g = grown (x.pk_cost + 1) (omega arith) in record { static = omega arith; sat = g.0; dissat = g.1 }

-- pairs

module _ (l r : ExtData) (v : Within l) (w : Within r) where
  -- one case of each, over `more` bytes
  two : (kept add : ℕ) → kept ≤ add → (x y : Option SatData) → WithinSat l.pk_cost x → WithinSat r.pk_cost y
      → WithinSat (l.pk_cost + r.pk_cost + add) (sat_concat kept x y)
  two kept add le x y p q =
      more (sat_concat kept x y) (l.pk_cost + r.pk_cost + kept) (l.pk_cost + r.pk_cost + add) (omega arith)
      (concat-within kept x y l.pk_cost r.pk_cost p q)

  -- the first satisfied, or the first dissatisfied and the second satisfied
  or_else : (add : ℕ) → WithinSat (l.pk_cost + r.pk_cost + add)
      (fieldwise_max_opt l.sat_data (sat_concat 0 l.dissat_data r.sat_data))
  or_else add =
      max-within l.sat_data (sat_concat 0 l.dissat_data r.sat_data) (l.pk_cost + r.pk_cost + add)
      (more l.sat_data l.pk_cost (l.pk_cost + r.pk_cost + add) (omega arith) v.sat)
      (two 0 add (omega arith) l.dissat_data r.sat_data v.dissat w.sat)

  pub and-b-within : Within (and_b l r)
  unfolding and_b
  and-b-within =
      record {
        static = omega arith;
        sat = two 1 1 (omega arith) l.sat_data r.sat_data v.sat w.sat;
        dissat = two 1 1 (omega arith) l.dissat_data r.dissat_data v.dissat w.dissat;
      }

  pub and-v-within : Within (and_v l r)
  unfolding and_v
  and-v-within =
      record {
        static = omega arith;
        dissat = tt;
        sat =
            more (sat_concat 0 l.sat_data r.sat_data) (l.pk_cost + r.pk_cost + 0) (l.pk_cost + r.pk_cost) (omega arith)
            (two 0 0 (omega arith) l.sat_data r.sat_data v.sat w.sat);
      }

  pub or-b-within : Within (or_b l r)
  unfolding or_b
  or-b-within =
      record {
        static = omega arith;
        sat =
            max-within (sat_concat 1 l.sat_data r.dissat_data) (sat_concat 1 l.dissat_data r.sat_data)
            (l.pk_cost + r.pk_cost + 1)
            (two 1 1 (omega arith) l.sat_data r.dissat_data v.sat w.dissat)
            (two 1 1 (omega arith) l.dissat_data r.sat_data v.dissat w.sat);
        dissat = two 1 1 (omega arith) l.dissat_data r.dissat_data v.dissat w.dissat;
      }

  pub or-d-within : Within (or_d l r)
  unfolding or_d
  or-d-within =
      record {
        static = omega arith;
        sat = or_else 3;
        dissat = two 0 3 (omega arith) l.dissat_data r.dissat_data v.dissat w.dissat;
      }

  pub or-c-within : Within (or_c l r)
  unfolding or_c
  or-c-within = record { static = omega arith; sat = or_else 2; dissat = tt }

  pub or-i-within : Within (or_i l r)
  unfolding or_i
  or-i-within =
      record {
        static = omega arith;
        sat = either-within l.sat_data r.sat_data l.pk_cost r.pk_cost v.sat w.sat;
        dissat = either-within l.dissat_data r.dissat_data l.pk_cost r.pk_cost v.dissat w.dissat;
      }

pub cast-true-within : (x : ExtData) → Within x → Within (cast_true x)
unfolding cast_true
cast-true-within x w = and-v-within x true_ext w true-within

pub cast-unlikely-within : (x : ExtData) → Within x → Within (cast_unlikely x)
unfolding cast_unlikely
cast-unlikely-within x w = or-i-within x false_ext w false-within

pub cast-likely-within : (x : ExtData) → Within x → Within (cast_likely x)
unfolding cast_likely
cast-likely-within x w = or-i-within false_ext x false-within w

pub and-or-within : (a b c : ExtData) → Within a → Within b → Within c → Within (and_or a b c)
unfolding and_or
and-or-within a b c u v w =
    let n : ℕ = a.pk_cost + b.pk_cost + c.pk_cost + 3 in
    record {
      static = omega arith;
      sat =
          max-within (sat_concat 0 a.sat_data b.sat_data) (sat_concat 0 a.dissat_data c.sat_data) n
          (more (sat_concat 0 a.sat_data b.sat_data) (a.pk_cost + b.pk_cost + 0) n (omega arith)
          (concat-within 0 a.sat_data b.sat_data a.pk_cost b.pk_cost u.sat v.sat))
          (more (sat_concat 0 a.dissat_data c.sat_data) (a.pk_cost + c.pk_cost + 0) n (omega arith)
          (concat-within 0 a.dissat_data c.sat_data a.pk_cost c.pk_cost u.dissat w.sat));
      dissat =
          more (sat_concat 0 a.dissat_data c.dissat_data) (a.pk_cost + c.pk_cost + 0) n (omega arith)
          (concat-within 0 a.dissat_data c.dissat_data a.pk_cost c.pk_cost u.dissat w.dissat);
    }
