-- How many elements a script removes, by the input of its type: the counts that the rules' inputs allow.
use Prim.Native.Nat.{ℕ, zero, suc, ◌+◌, ◌≤◌}
use native.Mathlib.Omega.{arith}
use mathlib.Core.Bool.{Bool, true, false, cond, ◌&&◌, ◌||◌, false≢true}
use mathlib.Core.Logic.{◌⊎◌, inl, inr}
use mathlib.Core.Path.{◌≡◌, refl}
use lib.Dec.{eqb, eqb→eq}
use Rattle.correctness.specs.declared.Base.{Base}
use Rattle.correctness.specs.declared.Base.TheVariants.{B, K, «V», W}
use Rattle.correctness.specs.declared.Input.{Input}
use Rattle.correctness.specs.declared.Input.TheVariants.{Zero, One, Any, OneNonZero, AnyNonZero}
use Rattle.correctness.specs.Letters.{is_zero, is_one, is_non_zero}
use Rattle.correctness.specs.CorrectnessRules.{and_input, or_b_input, or_d_input, or_i_input, and_or_input, num_args, threshold_input}
use Rattle.script_machine.proofs.Round.{T_of}

-- how many o removes: of K, whose signature is still below, none
abbrev pub ones : Base → ℕ
ones B = 1
ones «V» = 1
ones K = 0
ones W = 1

pub ones-le : (b : Base) → ones b ≤ 1
ones-le B = omega arith
ones-le «V» = omega arith
ones-le K = omega arith
ones-le W = omega arith

-- n elements are removed, where w is what o removes; no K is z
abbrev pub Size : ℕ → Input → ℕ → Type 0
Size w Zero n = (n ≡ 0) × (w ≡ 1)
Size w One n = n ≡ w
Size w Any n = Unit {0}
Size w OneNonZero n = n ≡ w
Size w AnyNonZero n = w ≤ n

-- what z, o and n say
pub zero-size : (w : ℕ) (i : Input) (n : ℕ) → is_zero i ≡ true → Size w i n → (n ≡ 0) × (w ≡ 1)
zero-size w Zero n e l = l
zero-size w One n e l = absurd (false≢true e)
zero-size w Any n e l = absurd (false≢true e)
zero-size w OneNonZero n e l = absurd (false≢true e)
zero-size w AnyNonZero n e l = absurd (false≢true e)

pub one_size : (w : ℕ) (i : Input) (n : ℕ) → is_one i ≡ true → Size w i n → n ≡ w
one_size w Zero n e l = absurd (false≢true e)
one_size w One n e l = l
one_size w Any n e l = absurd (false≢true e)
one_size w OneNonZero n e l = l
one_size w AnyNonZero n e l = absurd (false≢true e)

pub nonzero-size : (w : ℕ) (i : Input) (n : ℕ) → is_non_zero i ≡ true → Size w i n → w ≤ n
nonzero-size w Zero n e l = absurd (false≢true e)
nonzero-size w One n e l = absurd (false≢true e)
nonzero-size w Any n e l = absurd (false≢true e)
nonzero-size w OneNonZero n e l = omega arith
nonzero-size w AnyNonZero n e l = l

pub nonzero-one : (i : Input) → is_non_zero i ≡ true → Size 1 i 1
nonzero-one Zero e = absurd (false≢true e)
nonzero-one One e = refl
nonzero-one Any e = tt
nonzero-one OneNonZero e = refl
nonzero-one AnyNonZero e = omega arith

-- Check removes the signature
pub check-size : (i : Input) (n : ℕ) → Size 0 i n → Size 1 i (n + 1)
check-size Zero n l = absurd (let z : ◌≡◌ {A = ℕ} 0 1 = l.1 in omega arith)
check-size One n l = omega arith
check-size Any n l = tt
check-size OneNonZero n l = omega arith
check-size AnyNonZero n l = omega arith

-- one after the other
pub size-eq : (w : ℕ) (i : Input) {m n : ℕ} → m ≡ n → Size w i m → Size w i n
size-eq w i e l = rw e at l

size-cond : (w : ℕ) (b : Bool) (i j : Input) (n : ℕ) → (b ≡ true → Size w i n) → (b ≡ false → Size w j n) → Size w (cond b i j) n
size-cond w true i j n h k = h refl
size-cond w false i j n h k = k refl

pub and-size : (w : ℕ) → w ≤ 1 → (i j : Input) (m n : ℕ) → Size 1 i m → Size w j n → Size w (and_input i j) (m + n)
and-size w v Zero j m n k l = size-eq w j (omega (arith, k.0)) l
and-size w v One j m n k l = size-cond w (is_zero j) One Any (m + n) (λ e. let z = zero-size w j n e l in omega (arith, z.0, z.1)) (λ e. tt)
and-size w v Any j m n k l = tt
and-size w v OneNonZero j m n k l =
    size-cond w (is_zero j) OneNonZero AnyNonZero (m + n)
    (λ e. let z = zero-size w j n e l in omega (arith, z.0, z.1))
    (λ e. omega arith)
and-size w v AnyNonZero j m n k l = omega arith

-- the other inputs say z, or o, or nothing
pub both : (a b : Bool) → a && b ≡ true → (a ≡ true) × (b ≡ true)
both true b e = (refl, e)
both false b e = absurd (false≢true e)

either : (a b : Bool) → a || b ≡ true → (a ≡ true) ⊎ (b ≡ true)
either true b e = inl refl
either false b e = inr e

in_size : (w : ℕ) (z o : Bool) (n : ℕ) → (z ≡ true → (n ≡ 0) × (w ≡ 1)) → (o ≡ true → n ≡ w) → Size w (cond z Zero (cond o One Any)) n
in_size w true o n h k = h refl
in_size w false true n h k = k refl
in_size w false false n h k = tt

pub or_b-size : (i j : Input) (m n : ℕ) → Size 1 i m → Size 1 j n → Size 1 (or_b_input i j) (m + n)
or_b-size i j m n k l =
    in_size 1 (is_zero i && is_zero j) ((is_zero i && is_one j) || (is_one i && is_zero j)) (m + n) zz
    (λ e. go (either (is_zero i && is_one j) (is_one i && is_zero j) e))
  where
    zz : is_zero i && is_zero j ≡ true → (m + n ≡ 0) × (◌≡◌ {A = ℕ} 1 1)
    zz e = let f = both (is_zero i) (is_zero j) e in (omega (arith, (zero-size 1 i m f.0 k).0, (zero-size 1 j n f.1 l).0), refl)

    go : (is_zero i && is_one j ≡ true) ⊎ (is_one i && is_zero j ≡ true) → m + n ≡ 1
    go (inl e) = let f = both (is_zero i) (is_one j) e in omega (arith, (zero-size 1 i m f.0 k).0, one_size 1 j n f.1 l)
    go (inr e) = let f = both (is_one i) (is_zero j) e in omega (arith, one_size 1 i m f.0 k, (zero-size 1 j n f.1 l).0)

-- t is the whole; it is m unless the second takes something
pub or_d-size : (i j : Input) (m t : ℕ) → Size 1 i m → (is_zero j ≡ true → t ≡ m) → Size 1 (or_d_input i j) t
or_d-size i j m t k h =
    in_size 1 (is_zero i && is_zero j) (is_one i && is_zero j) t
    (λ e. let f = both (is_zero i) (is_zero j) e in (omega (arith, h f.1, (zero-size 1 i m f.0 k).0), refl))
    (λ e. let f = both (is_one i) (is_zero j) e in omega (arith, h f.1, one_size 1 i m f.0 k))

-- OrI takes its condition, and one of two
pub or_i-size : (w : ℕ) (i j t : Input) (n : ℕ) → Size w t n → (is_zero i && is_zero j ≡ true → is_zero t ≡ true) → Size w (or_i_input i j) (suc n)
or_i-size w i j t n l h =
    size-cond w (is_zero i && is_zero j) One Any (suc n)
    (λ e. let z = zero-size w t n (h e) l in omega (arith, z.0, z.1))
    (λ e. tt)

-- t is the branch taken
pub and_or-size : (w : ℕ) (i j k t : Input) (m n : ℕ) → Size 1 i m → Size w t n
    → (is_zero j && is_zero k ≡ true → is_zero t ≡ true) → (is_one j && is_one k ≡ true → is_one t ≡ true) → Size w (and_or_input i j k) (m + n)
and_or-size w i j k t m n l s hz ho =
    in_size w (is_zero i && (is_zero j && is_zero k)) ((is_zero i && (is_one j && is_one k)) || (is_one i && (is_zero j && is_zero k))) (m + n) zz
    (λ e. go (either (is_zero i && (is_one j && is_one k)) (is_one i && (is_zero j && is_zero k)) e))
  where
    zz : is_zero i && (is_zero j && is_zero k) ≡ true → (m + n ≡ 0) × (w ≡ 1)
    zz e =
        let f = both (is_zero i) (is_zero j && is_zero k) e in
        let g = zero-size w t n (hz f.1) s in
        (omega (arith, (zero-size 1 i m f.0 l).0, g.0), g.1)

    go : (is_zero i && (is_one j && is_one k) ≡ true) ⊎ (is_one i && (is_zero j && is_zero k) ≡ true) → m + n ≡ w
    go (inl e) =
        let f = both (is_zero i) (is_one j && is_one k) e in
        omega (arith, (zero-size 1 i m f.0 l).0, one_size w t n (ho f.1) s)
    go (inr e) =
        let f = both (is_one i) (is_zero j && is_zero k) e in
        let g = zero-size w t n (hz f.1) s in
        omega (arith, one_size 1 i m f.0 l, g.0, g.1)

-- Thresh's count: what it says of how many are removed
pub record Counts (c n : ℕ) : Type 0 where
  pub none : c ≡ 0 → n ≡ 0
  pub one : c ≡ 1 → n ≡ 1

pub counts : (i : Input) (n : ℕ) → Size 1 i n → Counts (num_args i) n
counts Zero n l = record { none = λ _. l.0; one = λ e. absurd (omega arith) }
counts One n l = record { none = λ e. absurd (omega arith); one = λ _. l }
counts Any n l = record { none = λ e. absurd (omega arith); one = λ e. absurd (omega arith) }
counts OneNonZero n l = record { none = λ e. absurd (omega arith); one = λ _. l }
counts AnyNonZero n l = record { none = λ e. absurd (omega arith); one = λ e. absurd (omega arith) }

pub counts-none : Counts 0 0
counts-none = record { none = λ e. refl; one = λ e. absurd (omega arith) }

pub counts-add : (c d m n : ℕ) → Counts c m → Counts d n → Counts (c + d) (m + n)
counts-add zero d m n k l =
    record { none = λ e. omega (arith, k.none refl, l.none (omega arith)); one = λ e. omega (arith, k.none refl, l.one (omega arith)) }
counts-add (suc zero) d m n k l =
    record { none = λ e. absurd (omega arith); one = λ e. omega (arith, k.one refl, l.none (omega arith)) }
counts-add (suc (suc c)) d m n k l = record { none = λ e. absurd (omega arith); one = λ e. absurd (omega arith) }

pub counts-size : (c n : ℕ) → Counts c n → Size 1 (threshold_input c) n
counts-size c n h = in_size 1 (eqb c 0) (eqb c 1) n (λ e. (h.none (eqb→eq c 0 (T_of e)), refl)) (λ e. h.one (eqb→eq c 1 (T_of e)))
