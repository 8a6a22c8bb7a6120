-- The packed number: it is below 960, it determines its type, and its order is the derived order. Assumes nothing.
use Rattle.std.specs.Prelude.{Option, None, Some}
use mathlib.Core.Path.{◌≡◌, refl, sym, ap, ◌∙◌}
use mathlib.Core.Bool.{Bool, true, false}
use Prim.Native.Nat.{ℕ, ◌+◌, ◌*◌, ◌/◌, ◌%◌, ◌<◌}
use native.Mathlib.Nat.{mul-le-mul_right, suc-mul, add_comm, zero-add, add-mul-mod_self_right, mod-eq_of_lt, add-mul-div_right, div-eq_of_lt}
use native.Mathlib.Omega.{arith}
use lib.Dec.{ltb}
use borrow.Author.Tests.{lt-ltb, le-ltb, ltb-true, ltb-false}
use Rattle.types.specs.Names.{Correctness, Malleability, «Type», Ordering, Less, Equal, Greater}
use Rattle.correctness.specs.Digits.{base_rank, input_rank, pack_corr, unpack_corr}
use Rattle.malleability.specs.Digits.{dissat_rank, unpack_mall}
use Rattle.contexts.specs.Bools.{bool_rank}
use Rattle.contexts.proofs.Bools.{bool_lt, bool-of}
use Rattle.correctness.proofs.Digits.{base-lt, input-lt, base-of, input-of}
use Rattle.malleability.proofs.Digits.{dissat-lt, dissat-of}
use Rattle.types.specs.TypeOrder.{cmp_rank, and_then, cmp_corr, cmp_mall, cmp_type, pack, unpack}

-- a number of two digits orders as its first digit does and then its second

cmp-less : (a b : ℕ) → a < b → cmp_rank a b ≡ Less
cmp-less a b h = rw (lt-ltb a b h)

cmp-greater : (a b : ℕ) → b < a → cmp_rank a b ≡ Greater
cmp-greater a b h = rw (le-ltb a b (omega arith), lt-ltb b a h)

cmp-equal : (a b : ℕ) → a ≡ b → cmp_rank a b ≡ Equal
cmp-equal a b h = rw (le-ltb a b (omega arith), le-ltb b a (omega arith))

cmp-shift : (a y y' : ℕ) → cmp_rank (a + y) (a + y') ≡ cmp_rank y y'
cmp-shift a y y' = go (ltb y y') (ltb y' y) refl refl
  where
    go : (s t : Bool) → ltb y y' ≡ s → ltb y' y ≡ t → cmp_rank (a + y) (a + y') ≡ cmp_rank y y'
    go true t p q =
        let l = ltb-true y y' p in
        cmp-less (a + y) (a + y') (omega (arith, l)) ∙ sym (cmp-less y y' l)
    go false true p q =
        let l = ltb-true y' y q in
        cmp-greater (a + y) (a + y') (omega (arith, l)) ∙ sym (cmp-greater y y' l)
    go false false p q =
        let e : y ≡ y' = omega (arith, ltb-false y y' p, ltb-false y' y q) in
        cmp-equal (a + y) (a + y') (ap (λ (n : ℕ). a + n) e) ∙ sym (cmp-equal y y' e)

two_digits : (k x y x' y' : ℕ) → y < k → y' < k → cmp_rank (x * k + y) (x' * k + y') ≡ and_then (cmp_rank x x') (cmp_rank y y')
two_digits k x y x' y' h h' = go (ltb x x') (ltb x' x) refl refl
  where
    below : (x x' y y' : ℕ) → y < k → x < x' → x * k + y < x' * k + y'
    below x x' y y' h l = omega (arith, mul-le-mul_right k l, suc-mul x k)

    go : (s t : Bool) → ltb x x' ≡ s → ltb x' x ≡ t → cmp_rank (x * k + y) (x' * k + y') ≡ and_then (cmp_rank x x') (cmp_rank y y')
    go true t p q =
        let l = ltb-true x x' p in
        cmp-less (x * k + y) (x' * k + y') (below x x' y y' h l)
        ∙ ap (λ (o : Ordering). and_then o (cmp_rank y y')) (sym (cmp-less x x' l))
    go false true p q =
        let l = ltb-true x' x q in
        cmp-greater (x * k + y) (x' * k + y') (below x' x y' y h' l)
        ∙ ap (λ (o : Ordering). and_then o (cmp_rank y y')) (sym (cmp-greater x x' l))
    go false false p q =
        let e : x ≡ x' = omega (arith, ltb-false x x' p, ltb-false x' x q) in
        ap (λ (n : ℕ). cmp_rank (x * k + y) (n * k + y')) (sym e)
        ∙ cmp-shift (x * k) y y'
        ∙ ap (λ (o : Ordering). and_then o (cmp_rank y y')) (sym (cmp-equal x x' e))

then-assoc : (a b c : Ordering) → and_then (and_then a b) c ≡ and_then a (and_then b c)
then-assoc Less b c = refl
then-assoc Equal b c = refl
then-assoc Greater b c = refl

-- one more digit, with what comes after it
digit-more : (k x y x' y' : ℕ) (o : Ordering) → y < k → y' < k
    → and_then (cmp_rank (x * k + y) (x' * k + y')) o ≡ and_then (cmp_rank x x') (and_then (cmp_rank y y') o)
digit-more k x y x' y' o h h' =
    ap (λ (p : Ordering). and_then p o) (two_digits k x y x' y' h h') ∙ then-assoc (cmp_rank x x') (cmp_rank y y') o

cmp-corr : (x y : Correctness) (o : Ordering) → and_then (cmp_rank (pack_corr x) (pack_corr y)) o ≡ and_then (cmp_corr x y) o
cmp-corr x y o =
    let b = base_rank x.base in
    let b' = base_rank y.base in
    let i = input_rank x.input in
    let i' = input_rank y.input in
    let d = bool_rank x.dissatisfiable in
    let d' = bool_rank y.dissatisfiable in
    let u = bool_rank x.unit in
    let u' = bool_rank y.unit in
    ap (λ (p : Ordering). and_then p o)
    (two_digits 2 ((b * 5 + i) * 2 + d) u ((b' * 5 + i') * 2 + d') u' (bool_lt x.unit) (bool_lt y.unit)
    ∙ digit-more 2 (b * 5 + i) d (b' * 5 + i') d' (cmp_rank u u') (bool_lt x.dissatisfiable) (bool_lt y.dissatisfiable)
    ∙ digit-more 5 b i b' i' (and_then (cmp_rank d d') (cmp_rank u u')) (input-lt x.input) (input-lt y.input))

-- the derived order is the order of the packed numbers
pub cmp-pack : (x y : «Type») → cmp_type x y ≡ cmp_rank (pack x) (pack y)
cmp-pack x y =
    let c = pack_corr x.corr in
    let c' = pack_corr y.corr in
    let e = dissat_rank x.mall.dissat in
    let e' = dissat_rank y.mall.dissat in
    let s = bool_rank x.mall.safe in
    let s' = bool_rank y.mall.safe in
    let m = bool_rank x.mall.non_malleable in
    let m' = bool_rank y.mall.non_malleable in
    sym
    (two_digits 2 ((c * 3 + e) * 2 + s) m ((c' * 3 + e') * 2 + s') m' (bool_lt x.mall.non_malleable) (bool_lt y.mall.non_malleable)
    ∙ digit-more 2 (c * 3 + e) s (c' * 3 + e') s' (cmp_rank m m') (bool_lt x.mall.safe) (bool_lt y.mall.safe)
    ∙ digit-more 3 c e c' e' (and_then (cmp_rank s s') (cmp_rank m m')) (dissat-lt x.mall.dissat) (dissat-lt y.mall.dissat)
    ∙ cmp-corr x.corr y.corr (cmp_mall x.mall y.mall))

-- the digits of a number are read back

last : (k x y : ℕ) → y < k → (x * k + y) % k ≡ y
last k x y h = ap (λ (n : ℕ). n % k) (add_comm (x * k) y) ∙ add-mul-mod_self_right y x k ∙ mod-eq_of_lt h

others : (k x y : ℕ) → y < k → (x * k + y) / k ≡ x
others k x y h =
    ap (λ (n : ℕ). n / k) (add_comm (x * k) y) ∙ add-mul-div_right y x (omega arith)
    ∙ ap (λ (n : ℕ). n + x) (div-eq_of_lt h) ∙ zero-add x

unpack-corr : (c : Correctness) → unpack_corr (pack_corr c) ≡ c
unpack-corr c =
    let b = base_rank c.base in
    let i = input_rank c.input in
    let d = bool_rank c.dissatisfiable in
    let u = bool_rank c.unit in
    let lb = base-lt c.base in
    let li = input-lt c.input in
    let ld = bool_lt c.dissatisfiable in
    let lu = bool_lt c.unit in
    let by-20 : pack_corr c ≡ b * 20 + (i * 4 + d * 2 + u) = omega arith in
    let by_4 : pack_corr c ≡ (b * 5 + i) * 4 + (d * 2 + u) = omega arith in
    let base : pack_corr c / 20 ≡ b = ap (λ (n : ℕ). n / 20) by-20 ∙ others 20 b (i * 4 + d * 2 + u) (omega (arith, li, ld, lu)) in
    let input : pack_corr c / 4 % 5 ≡ i =
    ap (λ (n : ℕ). n / 4 % 5) by_4 ∙ ap (λ (n : ℕ). n % 5) (others 4 (b * 5 + i) (d * 2 + u) (omega (arith, ld, lu))) ∙ last 5 b i li in
    let dis : pack_corr c / 2 % 2 ≡ d =
    ap (λ (n : ℕ). n % 2) (others 2 ((b * 5 + i) * 2 + d) u lu) ∙ last 2 (b * 5 + i) d ld in
    let unit : pack_corr c % 2 ≡ u = last 2 ((b * 5 + i) * 2 + d) u lu in
    rw (base, input, dis, unit, base-of c.base, input-of c.input, bool-of c.dissatisfiable, bool-of c.unit)

abbrev pack_mall : Malleability → ℕ
pack_mall m = (dissat_rank m.dissat * 2 + bool_rank m.safe) * 2 + bool_rank m.non_malleable

unpack-mall : (m : Malleability) → unpack_mall (pack_mall m) ≡ m
unpack-mall m =
    let x = dissat_rank m.dissat in
    let s = bool_rank m.safe in
    let n = bool_rank m.non_malleable in
    let ls = bool_lt m.safe in
    let ln = bool_lt m.non_malleable in
    let by_4 : pack_mall m ≡ x * 4 + (s * 2 + n) = omega arith in
    let dissat : pack_mall m / 4 ≡ x = ap (λ (k : ℕ). k / 4) by_4 ∙ others 4 x (s * 2 + n) (omega (arith, ls, ln)) in
    let safe : pack_mall m / 2 % 2 ≡ s = ap (λ (k : ℕ). k % 2) (others 2 (x * 2 + s) n ln) ∙ last 2 x s ls in
    let non-malleable : pack_mall m % 2 ≡ n = last 2 (x * 2 + s) n ln in
    rw (dissat, safe, non-malleable, dissat-of m.dissat, bool-of m.safe, bool-of m.non_malleable)

mall-lt : (m : Malleability) → pack_mall m < 12
mall-lt m = omega (arith, dissat-lt m.dissat, bool_lt m.safe, bool_lt m.non_malleable)

corr-lt : (c : Correctness) → pack_corr c < 80
corr-lt c = omega (arith, base-lt c.base, input-lt c.input, bool_lt c.dissatisfiable, bool_lt c.unit)

by-12 : (t : «Type») → pack t ≡ pack_corr t.corr * 12 + pack_mall t.mall
by-12 t = omega arith

pub pack-lt : (t : «Type») → pack t < 960
pack-lt t = omega (arith, by-12 t, corr-lt t.corr, mall-lt t.mall)

-- the packed number stands for its type
pub unpack-pack : (t : «Type») → unpack (pack t) ≡ Some t
unpack-pack t =
    let corr : pack t / 12 ≡ pack_corr t.corr =
    ap (λ (n : ℕ). n / 12) (by-12 t) ∙ others 12 (pack_corr t.corr) (pack_mall t.mall) (mall-lt t.mall) in
    let mall : pack t % 12 ≡ pack_mall t.mall =
    ap (λ (n : ℕ). n % 12) (by-12 t) ∙ last 12 (pack_corr t.corr) (pack_mall t.mall) (mall-lt t.mall) in
    rw (lt-ltb (pack t) 960 (pack-lt t), corr, mall, unpack-corr t.corr, unpack-mall t.mall)

held : «Type» → Option «Type» → «Type»
held t (Some u) = u
held t None = t

pub pack-injective : (t u : «Type») → pack t ≡ pack u → t ≡ u
unfolding held
pack-injective t u e = ap (held t) (sym (unpack-pack t) ∙ ap unpack e ∙ unpack-pack u)
