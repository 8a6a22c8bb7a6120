-- A node's eight words hold its candidate: each digit comes back, if it is below its width. Assumes nothing.
use Rattle.figures.specs.declared.SatData.{SatData}
use Rattle.std.specs.Prelude.{Option, None, Some}
use mathlib.Core.Path.{◌≡◌, refl, ap, ◌∙◌}
use mathlib.Core.Bool.{Bool, true, false}
use Prim.Native.Nat.{ℕ, ◌+◌, ◌*◌, ◌/◌, ◌%◌, ◌<◌, ◌≤◌}
use native.Mathlib.Omega.{arith}
use lib.Dec.{eqb}
use lib.Ieee.{Float}
use Rattle.words.proofs.Packing.{digit, rest}
use Rattle.words.proofs.Floats.{float-again}
use Rattle.types.specs.declared.«Type».{«Type»}
use Rattle.types.specs.TypeOrder.{pack, unpack}
use Rattle.contexts.specs.Bools.{bool_rank}
use Rattle.types.proofs.PackLaws.{pack-lt, unpack-pack}
use Rattle.contexts.proofs.Bools.{bool-of}
use Rattle.figures.specs.declared.ExtData.{ExtData}
use Rattle.figures.specs.Bounds.{WithinSat, Entered}
use Rattle.costs.specs.declared.Cost.{Cost}
use Rattle.candidates.specs.declared.Candidate.{Candidate}
use Rattle.nodes.specs.Words.{shape_word, script_word, witness_word, stack_word, dissat_word, has_sat, has_dissat_cost}
use Rattle.nodes.specs.Words.{type_or, sat_in, dissat_in, candidate_in}
use Rattle.words.specs.Floats.{word_of_float}
use Rattle.nodes.specs.Stored.{FitSat, FitExt, FitDissat, Fit}

-- a digit between others
pub middle : (k n low mid high w : ℕ) → low < k → mid < n → w ≡ low + (mid + high * n) * k → w / k % n ≡ mid
middle k n low mid high w l h e =
    ap (λ (v : ℕ). v / k % n) e ∙ ap (λ (v : ℕ). v % n) (rest k low (mid + high * n) l) ∙ digit n mid high h

lowest : (k low high w : ℕ) → low < k → w ≡ low + high * k → w % k ≡ low
lowest k low high w l e = ap (λ (v : ℕ). v % k) e ∙ digit k low high l

-- ---- the first word

record Shape (w k a b c t : ℕ) : Type 0 where
  kind : w % 0x40 ≡ k
  first : w / 0x40 % 0x1_0000 ≡ a
  second : w / 0x40_0000 % 0x1_0000 ≡ b
  third : w / 0x40_0000_0000 % 0x1_0000 ≡ c
  ty : w / 0x40_0000_0000_0000 % 0x400 ≡ t

shape : (w k a b c t : ℕ) → w ≡ k + a * 0x40 + b * 0x40_0000 + c * 0x40_0000_0000 + t * 0x40_0000_0000_0000
    → k < 0x40 → a < 0x1_0000 → b < 0x1_0000 → c < 0x1_0000 → t < 0x400 → Shape w k a b c t
shape w k a b c t e hk ha hb hc ht =
    record {
      kind = lowest 0x40 k (a + b * 0x1_0000 + c * 0x1_0000_0000 + t * 0x1_0000_0000_0000) w hk (omega arith);
      first = middle 0x40 0x1_0000 k a (b + c * 0x1_0000 + t * 0x1_0000_0000) w hk ha (omega arith);
      second = middle 0x40_0000 0x1_0000 (k + a * 0x40) b (c + t * 0x1_0000) w (omega arith) hb (omega arith);
      third = middle 0x40_0000_0000 0x1_0000 (k + a * 0x40 + b * 0x40_0000) c t w (omega arith) hc (omega arith);
      ty = middle 0x40_0000_0000_0000 0x400 (k + a * 0x40 + b * 0x40_0000 + c * 0x40_0000_0000) t 0 w (omega arith) ht (omega arith);
    }

type-again : (n : ℕ) (t : «Type») → n ≡ pack t → type_or (unpack n) ≡ t
type-again n t e = ap (λ (v : ℕ). type_or (unpack v)) e ∙ ap type_or (unpack-pack t)

-- ---- the second word

record Script (w p q h f s d c : ℕ) : Type 0 where
  cost : w % 0x40_0000 ≡ p
  static : w / 0x40_0000 % 0x40_0000 ≡ q
  height : w / 0x1000_0000_0000 % 0x1_0000 ≡ h
  free : w / 0x1000_0000_0000_0000 % 2 ≡ f
  sat : w / 0x2000_0000_0000_0000 % 2 ≡ s
  dissat : w / 0x4000_0000_0000_0000 % 2 ≡ d
  costed : w / 0x8000_0000_0000_0000 % 2 ≡ c

script : (w p q h f s d c : ℕ)
    → w ≡ p + q * 0x40_0000 + h * 0x1000_0000_0000 + f * 0x1000_0000_0000_0000 + s * 0x2000_0000_0000_0000
    + d * 0x4000_0000_0000_0000 + c * 0x8000_0000_0000_0000
    → p < 0x40_0000 → q < 0x40_0000 → h < 0x1_0000 → f < 2 → s < 2 → d < 2 → c < 2 → Script w p q h f s d c
script w p q h f s d c e hp hq hh hf hs hd hc =
    let one = p + q * 0x40_0000 in
    let two = p + q * 0x40_0000 + h * 0x1000_0000_0000 in
    let three = p + q * 0x40_0000 + h * 0x1000_0000_0000 + f * 0x1000_0000_0000_0000 in
    let four = p + q * 0x40_0000 + h * 0x1000_0000_0000 + f * 0x1000_0000_0000_0000 + s * 0x2000_0000_0000_0000 in
    let five = p + q * 0x40_0000 + h * 0x1000_0000_0000 + f * 0x1000_0000_0000_0000 + s * 0x2000_0000_0000_0000 + d * 0x4000_0000_0000_0000 in
    record {
      cost =
          lowest 0x40_0000 p
          (q + h * 0x40_0000 + f * 0x40_0000_0000 + s * 0x80_0000_0000 + d * 0x100_0000_0000 + c * 0x200_0000_0000) w hp (omega arith);
      static =
          middle 0x40_0000 0x40_0000 p q (h + f * 0x1_0000 + s * 0x2_0000 + d * 0x4_0000 + c * 0x8_0000) w hp hq (omega arith);
      height = middle 0x1000_0000_0000 0x1_0000 one h (f + s * 2 + d * 4 + c * 8) w (omega arith) hh (omega arith);
      free = middle 0x1000_0000_0000_0000 2 two f (s + d * 2 + c * 4) w (omega arith) hf (omega arith);
      sat = middle 0x2000_0000_0000_0000 2 three s (d + c * 2) w (omega arith) hs (omega arith);
      dissat = middle 0x4000_0000_0000_0000 2 four d c w (omega arith) hd (omega arith);
      costed = middle 0x8000_0000_0000_0000 2 five c 0 w (omega arith) hc (omega arith);
    }

bit-lt : (b : Bool) → bool_rank b < 2
bit-lt true = omega arith
bit-lt false = omega arith

sat-lt : (s : Option SatData) → has_sat s < 2
sat-lt (Some d) = omega arith
sat-lt None = omega arith

dissat-lt : (d : Option Float) → has_dissat_cost d < 2
dissat-lt (Some x) = omega arith
dissat-lt None = omega arith

-- ---- worst cases and costs

record Half (w x y o : ℕ) : Type 0 where
  size : w % 0x200_0000 ≡ x
  count : w / 0x200_0000 % 0x40_0000 ≡ y
  ops : w / 0x8000_0000_0000 % 0x800 ≡ o

half : (w x y o : ℕ) → w ≡ x + y * 0x200_0000 + o * 0x8000_0000_0000 → x < 0x200_0000 → y < 0x40_0000 → o < 0x800 → Half w x y o
half w x y o e hx hy ho =
    record {
      size = lowest 0x200_0000 x (y + o * 0x40_0000) w hx (omega arith);
      count = middle 0x200_0000 0x40_0000 x y o w hx hy (omega arith);
      ops = middle 0x8000_0000_0000 0x800 (x + y * 0x200_0000) o 0 w (omega arith) ho (omega arith);
    }

two-halves : (o low high : ℕ) → low ≡ o % 0x800 → high ≡ o / 0x800 → low + high * 0x800 ≡ o
two-halves o low high p q = omega arith

sat-data : (a b c d e a' b' c' d' e' : ℕ) → a ≡ a' → b ≡ b' → c ≡ c' → d ≡ d' → e ≡ e'
    → ◌≡◌ {A = Option SatData}
    (Some
    (record {
      max_witness_stack_size = a;
      max_witness_stack_count = b;
      max_script_sig_size = c;
      max_exec_stack_count = d;
      max_exec_op_count = e;
    }))
    (Some
    (record {
      max_witness_stack_size = a';
      max_witness_stack_count = b';
      max_script_sig_size = c';
      max_exec_stack_count = d';
      max_exec_op_count = e';
    }))
sat-data a b c d e a' b' c' d' e' p q r s t = rw (p, q, r, s, t)

sat-again : (s : Option SatData) → FitSat s → sat_in (has_sat s) (witness_word s) (stack_word s) ≡ s
sat-again None f = refl
sat-again (Some d) f =
    let o = d.max_exec_op_count in
    let w =
    half (witness_word (Some d)) d.max_witness_stack_size d.max_witness_stack_count (o % 0x800) refl f.size f.count
    (omega arith) in
    let s =
    half (stack_word (Some d)) d.max_script_sig_size d.max_exec_stack_count (o / 0x800) refl f.sig f.stack
    (omega (arith, f.ops)) in
    sat-data _ _ _ _ _ _ _ _ _ _ w.size w.count s.size s.count (two-halves o _ _ w.ops s.ops)

dissat-again : (d : Option Float) → FitDissat d → dissat_in (has_dissat_cost d) (dissat_word d) ≡ d
dissat-again None f = refl
dissat-again (Some x) f = ap Some (float-again x f)

-- ---- the whole

free-again : (n : ℕ) (b : Bool) → n ≡ bool_rank b → eqb n 1 ≡ b
free-again n b e = ap (λ (v : ℕ). eqb v 1) e ∙ bool-of b

has-sat : (n : ℕ) (s : Option SatData) → n ≡ has_sat s → FitSat s → sat_in n (witness_word s) (stack_word s) ≡ s
has-sat n s e f = ap (λ (v : ℕ). sat_in v (witness_word s) (stack_word s)) e ∙ sat-again s f

has-dissat : (n : ℕ) (d : Option Float) → n ≡ has_dissat_cost d → FitDissat d → dissat_in n (dissat_word d) ≡ d
has-dissat n d e f = ap (λ (v : ℕ). dissat_in v (dissat_word d)) e ∙ dissat-again d f

ext-data : {p q h p' q' h' : ℕ} {f f' : Bool} {s d s' d' : Option SatData} → p ≡ p' → f ≡ f' → q ≡ q' → s ≡ s' → d ≡ d' → h ≡ h'
    → ◌≡◌ {A = ExtData}
    (record { pk_cost = p; has_free_verify = f; static_ops = q; sat_data = s; dissat_data = d; tree_height = h })
    (record { pk_cost = p'; has_free_verify = f'; static_ops = q'; sat_data = s'; dissat_data = d'; tree_height = h' })
ext-data a b c d e f = rw (a, b, c, d, e, f)

cost-data : {a a' : Float} {d d' : Option Float} → a ≡ a' → d ≡ d'
    → ◌≡◌ {A = Cost} (record { sat_cost = a; dissat_cost = d }) (record { sat_cost = a'; dissat_cost = d' })
cost-data p q = rw (p, q)

candidate-data : {k a b c k' a' b' c' : ℕ} {t t' : «Type»} {e e' : ExtData} {o o' : Cost}
    → k ≡ k' → a ≡ a' → b ≡ b' → c ≡ c' → t ≡ t' → e ≡ e' → o ≡ o'
    → ◌≡◌ {A = Candidate}
    (record { kind = k; first = a; second = b; third = c; ty = t; ext = e; cost = o })
    (record { kind = k'; first = a'; second = b'; third = c'; ty = t'; ext = e'; cost = o' })
candidate-data p q r s t u v = rw (p, q, r, s, t, u, v)

-- the candidate of a node's words
pub words-again : (x : Candidate) → Fit x
    → candidate_in (shape_word x) (script_word x) (witness_word x.ext.sat_data) (stack_word x.ext.sat_data)
    (witness_word x.ext.dissat_data) (stack_word x.ext.dissat_data) (word_of_float x.cost.sat_cost)
    (dissat_word x.cost.dissat_cost)
    ≡ x
words-again x f =
    let e = x.ext in
    let o = x.cost in
    let a =
    shape (shape_word x) x.kind x.first x.second x.third (pack x.ty) refl f.kind f.first f.second f.third
    (omega (arith, pack-lt x.ty)) in
    let b =
    script (script_word x) e.pk_cost e.static_ops e.tree_height (bool_rank e.has_free_verify) (has_sat e.sat_data)
    (has_sat e.dissat_data) (has_dissat_cost o.dissat_cost) refl f.ext.cost f.ext.static f.ext.height
    (bit-lt e.has_free_verify) (sat-lt e.sat_data) (sat-lt e.dissat_data) (dissat-lt o.dissat_cost) in
    candidate-data a.kind a.first a.second a.third (type-again _ x.ty a.ty)
    (ext-data b.cost (free-again _ e.has_free_verify b.free) b.static (has-sat _ e.sat_data b.sat f.ext.sat)
    (has-sat _ e.dissat_data b.dissat f.ext.dissat) b.height)
    (cost-data (float-again o.sat_cost f.sat) (has-dissat _ o.dissat_cost b.costed f.dissat))

-- ---- what has entered a table is below its width

within-fits : (bytes : ℕ) (s : Option SatData) → bytes ≤ 4000000 → WithinSat bytes s → FitSat s
within-fits bytes None h w = tt
within-fits bytes (Some d) h w =
    record {
      size = omega (arith, w.size);
      count = omega (arith, w.count);
      sig = omega (arith, w.sig);
      stack = omega (arith, w.stack);
      ops = omega (arith, w.ops);
    }

pub entered-fits : (height : ℕ) (e : ExtData) → height < 0x1_0000 → Entered height e → FitExt e
entered-fits height e h b =
    record {
      cost = omega (arith, b.cost);
      static = omega (arith, b.cost, b.within.static);
      height = omega (arith, b.low);
      sat = within-fits e.pk_cost e.sat_data b.cost b.within.sat;
      dissat = within-fits e.pk_cost e.dissat_data b.cost b.within.dissat;
    }
