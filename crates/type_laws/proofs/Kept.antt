-- Every type that a rule gives arises (specs/Sanity.antt of `types`), if its children do; so it passes the Rust's checks. Assumes nothing.
use Rattle.correctness.specs.declared.TypeError.{TypeError}
use Rattle.std.specs.Prelude.{Result}
use mathlib.Core.Path.{◌≡◌, refl, sym, ap, ◌∙◌}
use mathlib.Core.Bool.{Bool, true, false, cond, not, ◌&&◌, ◌||◌}
use mathlib.Core.List.{[], ◌∷◌}
use lib.Dec.{eqb}
use borrow.Author.Tests.{eqb-true}
use Rattle.contexts.specs.declared.Context.{Context}
use Rattle.contexts.specs.declared.Context.TheVariants.{Segwitv0, Tap}
use Rattle.correctness.specs.declared.Base.{Base}
use Rattle.correctness.specs.declared.Base.TheVariants.{B, «V»}
use Rattle.correctness.specs.declared.Input.{Input}
use Rattle.correctness.specs.declared.Input.TheVariants.{Zero, One, Any, OneNonZero, AnyNonZero}
use Rattle.correctness.specs.declared.Correctness.{Correctness}
use Rattle.malleability.specs.declared.Dissat.{Dissat}
use Rattle.malleability.specs.declared.Malleability.{Malleability}
use Rattle.types.specs.declared.«Type».{«Type»}
use Rattle.correctness.specs.Letters.{is_b, is_v, is_w, base_eq, is_zero, is_one}
use Rattle.contexts.specs.Bools.{implies}
use Rattle.contexts.specs.Lists.{all}
use Rattle.correctness.specs.CorrectnessRules.{ok_if, is_bdu, same_bkv, and_input, or_b_input, or_d_input, or_i_input, and_or_input}
use Rattle.malleability.specs.MalleabilityRules as mall
use Rattle.types.specs.TypeRules as rule
use Rattle.correctness.specs.Digits.{base_rank, base_of}
use Rattle.types.specs.Sanity.{sane, arises, arises_if_typed}
use Rattle.contexts.proofs.Bools.{and_l, and_r, and_i}
use Rattle.types.proofs.Finite.{Finite, bools, bases, inputs, dissats}
use Rattle.correctness.proofs.Digits.{base-of}
use Rattle.type_laws.proofs.Kids.{pairs, law-1, law-2, law-3, Kid, kids, whole, kid, mall_of, ok, up, down}

-- what arises passes the Rust's checks
pub arises-sane : (t : «Type») → arises t ≡ true → sane t ≡ true
arises-sane t h = and_l (sane t) _ h

-- constructors

pub constructors : all arises
    (rule.TRUE ∷ rule.FALSE ∷ rule.pk_k ∷ rule.pk_h ∷ rule.multi ∷ rule.multi_a ∷ rule.hash ∷ rule.time ∷ []) ≡ true
unfolding all
constructors = refl

-- casts: computed over all types

abbrev Parts : Type 0
Parts = Base × (Input × (Bool × (Bool × (Dissat × (Bool × Bool)))))

abbrev types : Finite Parts
types = pairs bases (pairs inputs (pairs bools (pairs bools (pairs dissats (pairs bools bools)))))

abbrev of : Parts → «Type»
of p =
    record {
      corr = record { base = p.0; input = p.1.0; dissatisfiable = p.1.1.0; unit = p.1.1.1.0 };
      mall = record { dissat = p.1.1.1.1.0; safe = p.1.1.1.1.1.0; non_malleable = p.1.1.1.1.1.1 };
    }

abbrev parts_of : «Type» → Parts
parts_of t =
    (t.corr.base, (t.corr.input, (t.corr.dissatisfiable, (t.corr.unit, (t.mall.dissat, (t.mall.safe, t.mall.non_malleable))))))

abbrev Kept : («Type» → Result «Type» TypeError) → Type 0
Kept r = (t : «Type») → arises t ≡ true → arises_if_typed (r t) ≡ true

cast : (r : «Type» → Result «Type» TypeError) → types.every (λ p. implies (arises (of p)) (arises_if_typed (r (of p)))) ≡ true → Kept r
cast r h t = law-1 types (λ p. arises (of p)) (λ p. arises_if_typed (r (of p))) h (parts_of t)

pub cast-alt : Kept rule.cast_alt
cast-alt = cast rule.cast_alt refl

pub cast-swap : Kept rule.cast_swap
cast-swap = cast rule.cast_swap refl

pub cast-check : Kept rule.cast_check
cast-check = cast rule.cast_check refl

pub cast-dupif : (c : Context) → Kept (rule.cast_dupif c)
cast-dupif Segwitv0 = cast (rule.cast_dupif Segwitv0) refl
cast-dupif Tap = cast (rule.cast_dupif Tap) refl

pub cast-verify : Kept rule.cast_verify
cast-verify = cast rule.cast_verify refl

pub cast-nonzero : Kept rule.cast_nonzero
cast-nonzero = cast rule.cast_nonzero refl

pub cast-zeronotequal : Kept rule.cast_zeronotequal
cast-zeronotequal = cast rule.cast_zeronotequal refl

pub cast-true : Kept rule.cast_true
cast-true = cast rule.cast_true refl

pub cast-unlikely : Kept rule.cast_unlikely
cast-unlikely = cast rule.cast_unlikely refl

pub cast-likely : Kept rule.cast_likely
cast-likely = cast rule.cast_likely refl

-- pairs: computed over all bases and kids

abbrev Child : Type 0
Child = Base × Kid

abbrev children : Finite Child
children = pairs bases kids

abbrev child : «Type» → Child
child t = (t.corr.base, kid t)

abbrev ok_child : Child → Bool
ok_child c = ok c.0 c.1

pub if-met : (met : Bool) (c : Correctness) (m : Malleability) → (met ≡ true → arises (record { corr = c; mall = m }) ≡ true)
    → arises_if_typed (rule.typed (ok_if met c) m) ≡ true
if-met true c m f = f refl
if-met false c m f = refl

pair : (p : Child → Bool) (q r : Child → Child → Bool)
    → children.every (λ x. implies (p x && ok_child x) (children.every (λ y. implies (q x y && ok_child y) (r x y)))) ≡ true
    → (x y : «Type») → p (child x) ≡ true → q (child x) (child y) ≡ true → arises x ≡ true → arises y ≡ true → r (child x) (child y) ≡ true
pair p q r h x y k l hx hy =
    law-2 children children (λ x. p x && ok_child x) (λ x y. q x y && ok_child y) r h (child x) (child y)
    (and_i (p (child x)) (ok_child (child x)) k (up x hx)) (and_i (q (child x) (child y)) (ok_child (child y)) l (up y hy))

abbrev z_of : Child → Bool
z_of c = c.1.0

abbrev d_of : Child → Bool
d_of c = c.1.1.0

abbrev u_of : Child → Bool
u_of c = c.1.1.1.0

abbrev m_of : Child → Malleability
m_of c = mall_of c.1

abbrev is_bdu_of : Child → Bool
is_bdu_of c = is_b c.0 && (d_of c && u_of c)

-- whether the whole is z

pub zero_of : (a c : Bool) → is_zero (cond a Zero (cond c One Any)) ≡ a
zero_of true c = refl
zero_of false true = refl
zero_of false false = refl

or-b-zero : (x y : Input) → is_zero (or_b_input x y) ≡ is_zero x && is_zero y
or-b-zero x y = zero_of (is_zero x && is_zero y) ((is_zero x && is_one y) || (is_one x && is_zero y))

or-d-zero : (x y : Input) → is_zero (or_d_input x y) ≡ is_zero x && is_zero y
or-d-zero x y = zero_of (is_zero x && is_zero y) (is_one x && is_zero y)

and-or-zero : (x y z : Input) → is_zero (and_or_input x y z) ≡ is_zero x && (is_zero y && is_zero z)
and-or-zero x y z =
    zero_of (is_zero x && (is_zero y && is_zero z)) ((is_zero x && (is_one y && is_one z)) || (is_one x && (is_zero y && is_zero z)))

none_of : (a : Bool) (i j : Input) → is_zero i ≡ false → is_zero j ≡ false → is_zero (cond a i j) ≡ false
none_of true i j h k = h
none_of false i j h k = k

and_zero : (x y : Input) → is_zero (and_input x y) ≡ is_zero x && is_zero y
and_zero Zero y = refl
and_zero One y = none_of (is_zero y) One Any refl refl
and_zero Any y = refl
and_zero OneNonZero y = none_of (is_zero y) OneNonZero AnyNonZero refl refl
and_zero AnyNonZero y = refl

abbrev Kept2 : («Type» → «Type» → Result «Type» TypeError) → Type 0
Kept2 r = (x y : «Type») → arises x ≡ true → arises y ≡ true → arises_if_typed (r x y) ≡ true

pub and-b : Kept2 rule.and_b
and-b x y hx hy =
    if-met (is_b x.corr.base && is_w y.corr.base) _ _
    (λ met.
    ap (λ (z : Bool). ok B (whole z (x.corr.dissatisfiable && y.corr.dissatisfiable) true (mall.and_b x.mall y.mall)))
    (and_zero x.corr.input y.corr.input)
    ∙ pair (λ x. is_b x.0) (λ x y. is_w y.0)
    (λ x y. ok B (whole (z_of x && z_of y) (d_of x && d_of y) true (mall.and_b (m_of x) (m_of y)))) refl x y
    (and_l (is_b x.corr.base) _ met) (and_r (is_b x.corr.base) _ met) hx hy)

pub and-v : Kept2 rule.and_v
and-v x y hx hy =
    if-met (is_v x.corr.base && not (is_w y.corr.base)) _ _
    (λ met.
    down y.corr.base (and_input x.corr.input y.corr.input) false y.corr.unit (mall.and_v x.mall y.mall)
    (and_r (is_v x.corr.base) _ met)
    (ap (λ (z : Bool). ok y.corr.base (whole z false y.corr.unit (mall.and_v x.mall y.mall)))
    (and_zero x.corr.input y.corr.input)
    ∙ pair (λ x. is_v x.0) (λ x y. not (is_w y.0))
    (λ x y. ok y.0 (whole (z_of x && z_of y) false (u_of y) (mall.and_v (m_of x) (m_of y)))) refl x y
    (and_l (is_v x.corr.base) _ met) (and_r (is_v x.corr.base) _ met) hx hy))

pub or-b : Kept2 rule.or_b
or-b x y hx hy =
    if-met ((x.corr.dissatisfiable && y.corr.dissatisfiable) && (is_b x.corr.base && is_w y.corr.base)) _ _
    (λ met.
    let bases = and_r (x.corr.dissatisfiable && y.corr.dissatisfiable) _ met in
    ap (λ (z : Bool). ok B (whole z true true (mall.or_b x.mall y.mall))) (or-b-zero x.corr.input y.corr.input)
    ∙ pair (λ x. is_b x.0) (λ x y. is_w y.0) (λ x y. ok B (whole (z_of x && z_of y) true true (mall.or_b (m_of x) (m_of y)))) refl x y
    (and_l (is_b x.corr.base) _ bases) (and_r (is_b x.corr.base) _ bases) hx hy)

pub or-d : Kept2 rule.or_d
or-d x y hx hy =
    if-met (is_bdu x.corr && is_b y.corr.base) _ _
    (λ met.
    ap (λ (z : Bool). ok B (whole z y.corr.dissatisfiable y.corr.unit (mall.or_d x.mall y.mall)))
    (or-d-zero x.corr.input y.corr.input)
    ∙ pair is_bdu_of (λ x y. is_b y.0) (λ x y. ok B (whole (z_of x && z_of y) (d_of y) (u_of y) (mall.or_d (m_of x) (m_of y)))) refl x y
    (and_l (is_bdu x.corr) _ met) (and_r (is_bdu x.corr) _ met) hx hy)

pub or-c : Kept2 rule.or_c
or-c x y hx hy =
    if-met (is_bdu x.corr && is_v y.corr.base) _ _
    (λ met.
    ap (λ (z : Bool). ok «V» (whole z false false (mall.or_c x.mall y.mall)))
    (or-d-zero x.corr.input y.corr.input)
    ∙ pair is_bdu_of (λ x y. is_v y.0) (λ x y. ok «V» (whole (z_of x && z_of y) false false (mall.or_c (m_of x) (m_of y)))) refl x y
    (and_l (is_bdu x.corr) _ met) (and_r (is_bdu x.corr) _ met) hx hy)

pub or-i : Kept2 rule.or_i
or-i x y hx hy =
    if-met (same_bkv x.corr.base y.corr.base) _ _
    (λ met.
    down x.corr.base (or_i_input x.corr.input y.corr.input) (x.corr.dissatisfiable || y.corr.dissatisfiable)
    (x.corr.unit && y.corr.unit) (mall.or_i x.mall y.mall) (and_r (base_eq x.corr.base y.corr.base) _ met)
    (ap (λ (z : Bool). ok x.corr.base
    (whole z (x.corr.dissatisfiable || y.corr.dissatisfiable) (x.corr.unit && y.corr.unit) (mall.or_i x.mall y.mall)))
    (none_of (is_zero x.corr.input && is_zero y.corr.input) One Any refl refl)
    ∙ pair (λ x. not (is_w x.0)) (λ x y. base_eq x.0 y.0)
    (λ x y. ok x.0 (whole false (d_of x || d_of y) (u_of x && u_of y) (mall.or_i (m_of x) (m_of y)))) refl x y
    (and_r (base_eq x.corr.base y.corr.base) _ met) (and_l (base_eq x.corr.base y.corr.base) _ met) hx hy))

-- the triple: its second and third child have one base

base-eq : (a b : Base) → base_eq a b ≡ true → a ≡ b
base-eq a b h =
    sym (base-of a)
    ∙ ap base_of
    (eqb-true (base_rank a) (base_rank b)
    (law-2 bases bases (λ a. true) base_eq (λ a b. eqb (base_rank a) (base_rank b)) refl a b refl h))
    ∙ base-of b

abbrev and_or_ok : Child → Child → Kid → Bool
and_or_ok x y z =
    ok y.0 (whole (z_of x && (z_of y && z.0)) z.1.0 (u_of y && z.1.1.0) (mall.and_or (m_of x) (m_of y) (mall_of z)))

triple : (x y : Child) (z : Kid) → is_bdu_of x && ok_child x ≡ true → not (is_w y.0) && ok_child y ≡ true → ok y.0 z ≡ true
    → and_or_ok x y z ≡ true
triple =
    law-3 children children kids (λ x. is_bdu_of x && ok_child x) (λ x y. not (is_w y.0) && ok_child y) (λ x y z. ok y.0 z) and_or_ok refl

pub and-or : (x y z : «Type») → arises x ≡ true → arises y ≡ true → arises z ≡ true → arises_if_typed (rule.and_or x y z) ≡ true
and-or x y z hx hy hz =
    if-met (is_bdu x.corr && same_bkv y.corr.base z.corr.base) _ _
    (λ met.
    let same = and_r (is_bdu x.corr) (same_bkv y.corr.base z.corr.base) met in
    let no-w = and_r (base_eq y.corr.base z.corr.base) _ same in
    let one-base = base-eq y.corr.base z.corr.base (and_l (base_eq y.corr.base z.corr.base) _ same) in
    down y.corr.base (and_or_input x.corr.input y.corr.input z.corr.input) z.corr.dissatisfiable
    (y.corr.unit && z.corr.unit) (mall.and_or x.mall y.mall z.mall) no-w
    (ap (λ (q : Bool). ok y.corr.base
    (whole q z.corr.dissatisfiable (y.corr.unit && z.corr.unit) (mall.and_or x.mall y.mall z.mall)))
    (and-or-zero x.corr.input y.corr.input z.corr.input)
    ∙ triple (child x) (child y) (kid z)
    (and_i (is_bdu_of (child x)) (ok_child (child x)) (and_l (is_bdu x.corr) _ met) (up x hx))
    (and_i (not (is_w y.corr.base)) (ok_child (child y)) no-w (up y hy))
    (ap (λ (b : Base). ok b (kid z)) one-base ∙ up z hz)))
