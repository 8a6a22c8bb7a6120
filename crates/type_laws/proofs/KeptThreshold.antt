-- A threshold over children that arise gives a type that arises. Assumes nothing.
use Rattle.correctness.specs.declared.TypeError.{TypeError}
use Rattle.std.specs.Prelude.{Result}
use mathlib.Core.Path.{◌≡◌, refl, sym, ap, ◌∙◌}
use mathlib.Core.Bool.{Bool, true, false, ◌&&◌}
use mathlib.Core.List.{List, [], ◌∷◌, map}
use Prim.Native.Nat.{ℕ, ◌-◌, ◌<◌, ◌≤◌}
use native.Mathlib.Omega.{arith}
use lib.Dec.{eqb, leb, ltb}
use lib.ListN.{length, length-map}
use borrow.Author.Tests.{eqb-true, leb-true, eq-eqb, le-leb, lt-ltb}
use Rattle.correctness.specs.declared.Base.TheVariants.{B}
use Rattle.correctness.specs.declared.Input.{Input}
use Rattle.correctness.specs.declared.Input.TheVariants.{Zero, One, Any, OneNonZero, AnyNonZero}
use Rattle.correctness.specs.declared.Correctness.{Correctness}
use Rattle.malleability.specs.declared.Malleability.{Malleability}
use Rattle.types.specs.declared.«Type».{«Type»}
use Rattle.correctness.specs.Letters.{is_zero}
use Rattle.malleability.specs.Letters.{is_unique}
use Rattle.contexts.specs.Lists.{all, sum, one, count}
use Rattle.correctness.specs.CorrectnessRules.{first_b, num_args, threshold_input}
use Rattle.malleability.specs.MalleabilityRules as mall
use Rattle.types.specs.TypeRules as rule
use Rattle.types.specs.Sanity.{arises, arises_if_typed}
use Rattle.contexts.proofs.Bools.{and_l, and_r, and_i}
use Rattle.types.proofs.Finite.{bases}
use Rattle.type_laws.proofs.Kids.{pairs, law-1, kids, whole, kid, mall_of, ok, up}
use Rattle.type_laws.proofs.Kept.{zero_of, if-met}

abbrev corrs : List «Type» → List Correctness
corrs ts = map (λ t. t.corr) ts

abbrev malls : List «Type» → List Malleability
malls ts = map (λ t. t.mall) ts

abbrev is_ud : Correctness → Bool
is_ud c = c.unit && c.dissatisfiable

abbrev is_e : Malleability → Bool
is_e m = is_unique m.dissat

-- a child that takes nothing is a 0

not-zero : (n : ℕ) → 0 < n → n ≡ 0 → ⊥
not-zero n h e = omega arith

none-taken : (i : Input) → num_args i ≡ 0 → is_zero i ≡ true
none-taken Zero h = refl
none-taken One h = absurd (not-zero 1 (omega arith) h)
none-taken Any h = absurd (not-zero 2 (omega arith) h)
none-taken OneNonZero h = absurd (not-zero 1 (omega arith) h)
none-taken AnyNonZero h = absurd (not-zero 2 (omega arith) h)

is-0 : (t : «Type») → arises t ≡ true → is_ud t.corr ≡ true → is_zero t.corr.input ≡ true
    → is_e t.mall && (t.mall.safe && t.mall.non_malleable) ≡ true
is-0 t h ud z =
    law-1 (pairs bases kids) (λ c. (c.1.0 && (c.1.1.1.0 && c.1.1.0)) && ok c.0 c.1)
    (λ c. is_e (mall_of c.1) && ((mall_of c.1).safe && (mall_of c.1).non_malleable)) refl (t.corr.base, kid t)
    (and_i (is_zero t.corr.input && is_ud t.corr) (ok t.corr.base (kid t))
    (and_i (is_zero t.corr.input) (is_ud t.corr) z ud) (up t h))

-- children of which none takes anything
pub record All0 (ts : List «Type») : Type 0 where
  pub unique : all is_e (malls ts) ≡ true
  pub non-malleable : all (λ m. m.non_malleable) (malls ts) ≡ true
  pub safe : count (λ m. m.safe) (malls ts) ≡ length ts

all-0 : (ts : List «Type») → all arises ts ≡ true → all is_ud (corrs ts) ≡ true → sum (λ c. num_args c.input) (corrs ts) ≡ 0 → All0 ts
unfolding all sum
all-0 [] h ud n = record { unique = refl; non-malleable = refl; safe = refl }
all-0 (t ∷ ts) h ud n =
    let rest = all-0 ts (and_r (arises t) _ h) (and_r (is_ud t.corr) _ ud) (omega (arith, n)) in
    let zero : is_zero t.corr.input ≡ true = none-taken t.corr.input (omega (arith, n)) in
    let here = is-0 t (and_l (arises t) _ h) (and_l (is_ud t.corr) _ ud) zero in
    let sm = and_r (is_e t.mall) (t.mall.safe && t.mall.non_malleable) here in
    let counted : one t.mall.safe ≡ 1 = ap one (and_l t.mall.safe t.mall.non_malleable sm) in
    let others = rest.safe in
    record {
      unique = and_i (is_e t.mall) _ (and_l (is_e t.mall) (t.mall.safe && t.mall.non_malleable) here) rest.unique;
      non-malleable = and_i t.mall.non_malleable _ (and_r t.mall.safe t.mall.non_malleable sm) rest.non-malleable;
      safe = omega (arith, counted, others);
    }

-- the whole

typed-if : (b : Bool) (r : Result «Type» TypeError) → (b ≡ true → arises_if_typed r ≡ true) → arises_if_typed (rule.typed_if b r) ≡ true
typed-if true r f = f refl
typed-if false r f = refl

abbrev ok_with : Bool → Bool → Bool → Bool → Bool
ok_with z e s m = ok B (whole z true true (mall.malleability (mall.unique_if e) s m))

not-z : (e s m : Bool) → ok_with false e s m ≡ true
not-z true s m = refl
not-z false s m = refl

is-z : (z e s m : Bool) → e ≡ true → s ≡ true → m ≡ true → ok_with z e s m ≡ true
is-z z e s m he hs hm = ap (λ (e : Bool). ok_with z e s m) he ∙ ap (λ (s : Bool). ok_with z true s m) hs ∙ ap (ok_with z true true) hm ∙ good z
  where
    good : (z : Bool) → ok_with z true true true ≡ true
    good true = refl
    good false = refl

-- what a threshold takes, how many of its children are safe, whether it has e, s and m

abbrev taken : List «Type» → ℕ
taken ts = sum (λ c. num_args c.input) (corrs ts)

abbrev safes : List «Type» → ℕ
safes ts = mall.safe_count (malls ts)

abbrev has_e : List «Type» → Bool
has_e ts = mall.all_unique (malls ts) && eqb (safes ts) (length (malls ts))

abbrev has_s : ℕ → List «Type» → Bool
has_s k ts = ltb (length (malls ts) - k) (safes ts)

abbrev all_m : List «Type» → Bool
all_m ts = all (λ m. m.non_malleable) (malls ts)

abbrev enough : ℕ → List «Type» → Bool
enough k ts = leb (length (malls ts) - k) (safes ts)

abbrev has_m : ℕ → List «Type» → Bool
has_m k ts = (all_m ts && enough k ts) && mall.all_unique (malls ts)

pub threshold : (k : ℕ) (ts : List «Type») → all arises ts ≡ true → arises_if_typed (rule.threshold k ts) ≡ true
threshold k ts h =
    typed-if (rule.k_of_n k (length ts)) _
    (λ range. if-met (first_b (corrs ts) && all is_ud (corrs ts)) _ _ (λ met. go (is_zero (threshold_input (taken ts))) refl range met))
  where
    go : (z : Bool) → is_zero (threshold_input (taken ts)) ≡ z → rule.k_of_n k (length ts) ≡ true
        → first_b (corrs ts) && all is_ud (corrs ts) ≡ true
        → ok_with (is_zero (threshold_input (taken ts))) (has_e ts) (has_s k ts) (has_m k ts) ≡ true
    go false e range met = ap (λ (z : Bool). ok_with z (has_e ts) (has_s k ts) (has_m k ts)) e ∙ not-z (has_e ts) (has_s k ts) (has_m k ts)
    go true e range met =
        let none = eqb-true (taken ts) 0 (sym (zero_of (eqb (taken ts) 0) (eqb (taken ts) 1)) ∙ e) in
        let zeros = all-0 ts h (and_r (first_b (corrs ts)) _ met) none in
        let len : length (malls ts) ≡ length ts = length-map ts (λ t. t.mall) in
        let all-safe : safes ts ≡ length ts = zeros.safe in
        let low : 1 ≤ k = leb-true 1 k (and_l (leb 1 k) _ range) in
        let high : k ≤ length ts = leb-true k (length ts) (and_l (leb k (length ts)) _ (and_r (leb 1 k) _ range)) in
        is-z (is_zero (threshold_input (taken ts))) (has_e ts) (has_s k ts) (has_m k ts)
        (and_i (mall.all_unique (malls ts)) _ zeros.unique (eq-eqb (safes ts) (length (malls ts)) (all-safe ∙ sym len)))
        (lt-ltb (length (malls ts) - k) (safes ts) (omega (arith, len, all-safe, low, high)))
        (and_i (all_m ts && enough k ts) (mall.all_unique (malls ts))
        (and_i (all_m ts) (enough k ts) zeros.non-malleable
        (le-leb (length (malls ts) - k) (safes ts) (omega (arith, len, all-safe))))
        zeros.unique)
