-- One type is a subtype of another exactly if its mask has each bit of the other's, over all pairs of types. Assumes nothing.
use mathlib.Core.Path.{◌≡◌, refl, sym, ap, ap₂, ◌∙◌}
use mathlib.Core.Bool.{Bool, true, false, ◌&&◌, beq}
use Prim.Native.Nat.{ℕ, ◌+◌, ◌*◌, ◌/◌, ◌%◌, ◌^◌, ◌<◌}
use native.Mathlib.Omega.{arith}
use lib.Bits.{bit_and, and_block, and_lt}
use lib.Pow.{high, low}
use lib.Dec.{eqb}
use borrow.Author.Tests.{eqb-true, eqb-false, eq-eqb, ne_eqb}
use Rattle.contexts.specs.Bools.{bool_rank, implies}
use Rattle.contexts.proofs.Bools.{bool_lt}
use Rattle.correctness.specs.Letters.{base_eq}
use Rattle.correctness.specs.Subtype.{input_sub, corr_sub}
use Rattle.malleability.specs.Subtype.{dissat_sub, mall_sub}
use Rattle.types.specs.Names.{Base, Input, Zero, One, Any, OneNonZero, AnyNonZero, Dissat, None, Unique, Unknown}
use Rattle.types.specs.Names.{Correctness, Malleability, «Type»}
use Rattle.types.specs.Mask.{base_bits, input_bits, dissat_bits, corr_mask, mall_mask, mask, has_all}
use Rattle.types.specs.Subtype.{type_sub}
use Rattle.types.proofs.Finite.{Finite, bools, bases, inputs, dissats}

-- ---- the bits of each part are few

pub input-bits-lt : (i : Input) → input_bits i < 8
input-bits-lt Zero = omega arith
input-bits-lt One = omega arith
input-bits-lt Any = omega arith
input-bits-lt OneNonZero = omega arith
input-bits-lt AnyNonZero = omega arith

pub dissat-bits-lt : (d : Dissat) → dissat_bits d < 4
dissat-bits-lt None = omega arith
dissat-bits-lt Unique = omega arith
dissat-bits-lt Unknown = omega arith

two-lt : (a b : Bool) → bool_rank a * 2 + bool_rank b < 4
two-lt a b = omega (arith, bool_lt a, bool_lt b)

mall-lt : (m : Malleability) → mall_mask m < 16
mall-lt m = omega (arith, dissat-bits-lt m.dissat, bool_lt m.safe, bool_lt m.non_malleable)

both : {a b c d : Bool} → a ≡ c → b ≡ d → a && b ≡ c && d
both p q = ap₂ (λ (x y : Bool). x && y) p q

-- ---- numbers of two digits have each other's bits digit by digit

digits-equal : (k x y x' y' : ℕ) → y < 2 ^ k → y' < 2 ^ k → eqb (x * 2 ^ k + y) (x' * 2 ^ k + y') ≡ eqb x x' && eqb y y'
digits-equal k x y x' y' h h' = go (eqb x x') (eqb y y') refl refl
  where
    first : x * 2 ^ k + y ≡ x' * 2 ^ k + y' → x ≡ x'
    first e = sym (high x k h) ∙ ap (λ (n : ℕ). n / 2 ^ k) e ∙ high x' k h'

    second : x * 2 ^ k + y ≡ x' * 2 ^ k + y' → y ≡ y'
    second e = sym (low x k h) ∙ ap (λ (n : ℕ). n % 2 ^ k) e ∙ low x' k h'

    go : (s t : Bool) → eqb x x' ≡ s → eqb y y' ≡ t → eqb (x * 2 ^ k + y) (x' * 2 ^ k + y') ≡ eqb x x' && eqb y y'
    go true true p q =
        eq-eqb (x * 2 ^ k + y) (x' * 2 ^ k + y') (ap₂ (λ (m n : ℕ). m * 2 ^ k + n) (eqb-true x x' p) (eqb-true y y' q)) ∙ sym (both p q)
    go true false p q = ne_eqb (x * 2 ^ k + y) (x' * 2 ^ k + y') (λ e. eqb-false y y' q (second e)) ∙ sym (both p q)
    go false t p q = ne_eqb (x * 2 ^ k + y) (x' * 2 ^ k + y') (λ e. eqb-false x x' p (first e)) ∙ sym (both p q)

has_block : (k a b r s : ℕ) → r < 2 ^ k → s < 2 ^ k → has_all (a * 2 ^ k + r) (b * 2 ^ k + s) ≡ has_all a b && has_all r s
has_block k a b r s hr hs =
    ap (λ (n : ℕ). eqb n (b * 2 ^ k + s)) (and_block k a b r s hr hs)
    ∙ digits-equal k (bit_and a b) (bit_and r s) b s (and_lt k r s hr hs) hs

-- ---- each part by computation over all pairs of its values

same_true : (a b : Bool) → beq a b ≡ true → a ≡ b
same_true true true h = refl
same_true true false h = sym h
same_true false true h = h
same_true false false h = refl

over-pairs : {A : Type 0} (f : Finite A) (p q : A → A → Bool) → f.every (λ a. f.every (λ b. beq (p a b) (q a b))) ≡ true
    → (a b : A) → p a b ≡ q a b
over-pairs f p q h a b =
    same_true (p a b) (q a b)
    (f.at (λ b. beq (p a b) (q a b)) (f.at (λ a. f.every (λ b. beq (p a b) (q a b))) h a) b)

base-has : (a b : Base) → has_all (base_bits a) (base_bits b) ≡ base_eq a b
base-has = over-pairs bases (λ a b. has_all (base_bits a) (base_bits b)) base_eq refl

input-has : (a b : Input) → has_all (input_bits a) (input_bits b) ≡ input_sub a b
input-has = over-pairs inputs (λ a b. has_all (input_bits a) (input_bits b)) input_sub refl

dissat-has : (a b : Dissat) → has_all (dissat_bits a) (dissat_bits b) ≡ dissat_sub a b
dissat-has = over-pairs dissats (λ a b. has_all (dissat_bits a) (dissat_bits b)) dissat_sub refl

bool-has : (a b : Bool) → has_all (bool_rank a) (bool_rank b) ≡ implies b a
bool-has = over-pairs bools (λ a b. has_all (bool_rank a) (bool_rank b)) (λ a b. implies b a) refl

-- ---- types

two-has : (a b c d : Bool) → has_all (bool_rank a * 2 + bool_rank b) (bool_rank c * 2 + bool_rank d) ≡ implies c a && implies d b
two-has a b c d =
    has_block 1 (bool_rank a) (bool_rank c) (bool_rank b) (bool_rank d) (bool_lt b) (bool_lt d) ∙ both (bool-has a c) (bool-has b d)

corr-has : (x y : Correctness) → has_all (corr_mask x) (corr_mask y) ≡ corr_sub x y
corr-has x y =
    has_block 2 (base_bits x.base * 8 + input_bits x.input) (base_bits y.base * 8 + input_bits y.input)
    (bool_rank x.dissatisfiable * 2 + bool_rank x.unit) (bool_rank y.dissatisfiable * 2 + bool_rank y.unit)
    (two-lt x.dissatisfiable x.unit) (two-lt y.dissatisfiable y.unit)
    ∙ both
    (has_block 3 (base_bits x.base) (base_bits y.base) (input_bits x.input) (input_bits y.input)
    (input-bits-lt x.input) (input-bits-lt y.input)
    ∙ both (base-has x.base y.base) (input-has x.input y.input))
    (two-has x.dissatisfiable x.unit y.dissatisfiable y.unit)

mall-has : (x y : Malleability) → has_all (mall_mask x) (mall_mask y) ≡ mall_sub x y
mall-has x y =
    has_block 2 (dissat_bits x.dissat) (dissat_bits y.dissat)
    (bool_rank x.safe * 2 + bool_rank x.non_malleable) (bool_rank y.safe * 2 + bool_rank y.non_malleable)
    (two-lt x.safe x.non_malleable) (two-lt y.safe y.non_malleable)
    ∙ both (dissat-has x.dissat y.dissat) (two-has x.safe x.non_malleable y.safe y.non_malleable)

pub mask-has : (x y : «Type») → has_all (mask x) (mask y) ≡ type_sub x y
mask-has x y =
    has_block 4 (corr_mask x.corr) (corr_mask y.corr) (mall_mask x.mall) (mall_mask y.mall) (mall-lt x.mall) (mall-lt y.mall)
    ∙ both (corr-has x.corr y.corr) (mall-has x.mall y.mall)
