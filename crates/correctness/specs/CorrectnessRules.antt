-- The correctness rules, from types/correctness.rs, in its order and under its names.
use Rattle.correctness.specs.declared.TypeError.{TypeError}
use Rattle.std.specs.Prelude.{Bool, true, false, cond, not, ◌&&◌, ◌||◌, List, [], ◌∷◌, ℕ, eqb, Result, Ok, Err}
use Rattle.correctness.specs.Names.{Base, B, K, «V», W, Input, Zero, One, Any, OneNonZero, AnyNonZero, Correctness}
use Rattle.correctness.specs.Letters.{is_b, is_k, is_v, is_w, base_eq, is_zero, is_one, is_non_zero}
use Rattle.contexts.specs.Lists.{all, sum}
use Rattle.contexts.specs.declared.Context.{Context}
use Rattle.contexts.specs.declared.Context.TheVariants.{Segwitv0, Tap}

-- a base, an input, d and u
abbrev pub correctness : Base → Input → Bool → Bool → Correctness
correctness b i d u = record { base = b; input = i; dissatisfiable = d; unit = u }

abbrev pub ok_if : Bool → Correctness → Result Correctness TypeError
ok_if true c = Ok c
ok_if false c = Err TypeError.IllTyped

-- constructors

abbrev pub TRUE : Correctness
TRUE = correctness B Zero false true

abbrev pub FALSE : Correctness
FALSE = correctness B Zero true true

abbrev pub pk_k : Correctness
pk_k = correctness K OneNonZero true true

abbrev pub pk_h : Correctness
pk_h = correctness K AnyNonZero true true

abbrev pub multi : Correctness
multi = correctness B AnyNonZero true true

abbrev pub multi_a : Correctness
multi_a = correctness B Any true true

abbrev pub hash : Correctness
hash = correctness B OneNonZero true true

abbrev pub time : Correctness
time = correctness B Zero false false

-- casts

abbrev pub one_if_zero : Input → Input
one_if_zero i = cond (is_zero i) One Any

abbrev pub cast_alt : Correctness → Result Correctness TypeError
cast_alt c = ok_if (is_b c.base) (correctness W Any c.dissatisfiable c.unit)

abbrev pub cast_swap : Correctness → Result Correctness TypeError
cast_swap c = ok_if (is_b c.base && is_one c.input) (correctness W Any c.dissatisfiable c.unit)

abbrev pub cast_check : Correctness → Result Correctness TypeError
cast_check c = ok_if (is_k c.base) (correctness B c.input c.dissatisfiable true)

-- d:X is u in Tapscript alone, where IF takes nothing but the empty element and the byte 1: document 02, R-5
abbrev pub dupif_unit : Context → Bool
dupif_unit Segwitv0 = false
dupif_unit Tap = true

abbrev pub cast_dupif : Context → Correctness → Result Correctness TypeError
cast_dupif context c = ok_if (is_v c.base && is_zero c.input) (correctness B OneNonZero true (dupif_unit context))

abbrev pub cast_verify : Correctness → Result Correctness TypeError
cast_verify c = ok_if (is_b c.base) (correctness «V» c.input false false)

abbrev pub cast_nonzero : Correctness → Result Correctness TypeError
cast_nonzero c = ok_if (is_non_zero c.input && is_b c.base) (correctness B c.input true c.unit)

abbrev pub cast_zeronotequal : Correctness → Result Correctness TypeError
cast_zeronotequal c = ok_if (is_b c.base) (correctness B c.input c.dissatisfiable true)

abbrev pub cast_true : Correctness → Result Correctness TypeError
cast_true c = ok_if (is_v c.base) (correctness B c.input false true)

abbrev pub cast_or_i_false : Correctness → Result Correctness TypeError
cast_or_i_false c = ok_if (is_b c.base) (correctness B (one_if_zero c.input) true c.unit)

-- pairs and triples: what they ask of their children

abbrev pub is_bdu : Correctness → Bool
is_bdu x = is_b x.base && (x.dissatisfiable && x.unit)

-- both B, both K or both V
abbrev pub same_bkv : Base → Base → Bool
same_bkv x y = base_eq x y && not (is_w x)

-- what x and y take in turn; the same, whatever the top element is; what x takes and perhaps y; what one of the two takes and the choice

abbrev pub and_input : Input → Input → Input
and_input Zero y = y
and_input One y = one_if_zero y
and_input Any y = Any
and_input OneNonZero y = cond (is_zero y) OneNonZero AnyNonZero
and_input AnyNonZero y = AnyNonZero

abbrev pub or_b_input : Input → Input → Input
or_b_input x y = cond (is_zero x && is_zero y) Zero (cond ((is_zero x && is_one y) || (is_one x && is_zero y)) One Any)

abbrev pub or_d_input : Input → Input → Input
or_d_input x y = cond (is_zero x && is_zero y) Zero (cond (is_one x && is_zero y) One Any)

abbrev pub or_i_input : Input → Input → Input
or_i_input x y = cond (is_zero x && is_zero y) One Any

abbrev pub and_b : Correctness → Correctness → Result Correctness TypeError
and_b x y =
    ok_if (is_b x.base && is_w y.base)
    (correctness B (and_input x.input y.input) (x.dissatisfiable && y.dissatisfiable) true)

abbrev pub and_v : Correctness → Correctness → Result Correctness TypeError
and_v x y =
    ok_if (is_v x.base && not (is_w y.base))
    (correctness y.base (and_input x.input y.input) false y.unit)

abbrev pub or_b : Correctness → Correctness → Result Correctness TypeError
or_b x y =
    ok_if ((x.dissatisfiable && y.dissatisfiable) && (is_b x.base && is_w y.base))
    (correctness B (or_b_input x.input y.input) true true)

abbrev pub or_d : Correctness → Correctness → Result Correctness TypeError
or_d x y =
    ok_if (is_bdu x && is_b y.base)
    (correctness B (or_d_input x.input y.input) y.dissatisfiable y.unit)

abbrev pub or_c : Correctness → Correctness → Result Correctness TypeError
or_c x y =
    ok_if (is_bdu x && is_v y.base)
    (correctness «V» (or_d_input x.input y.input) false false)

abbrev pub or_i : Correctness → Correctness → Result Correctness TypeError
or_i x y =
    ok_if (same_bkv x.base y.base)
    (correctness x.base (or_i_input x.input y.input) (x.dissatisfiable || y.dissatisfiable) (x.unit && y.unit))

-- what y or z takes, if both take nothing or both one
abbrev pub branch_input : Input → Input → Input
branch_input y z = cond (is_zero y && is_zero z) Zero (cond (is_one y && is_one z) One Any)

-- z if all three are; o if x is z and both others o, or x is o and both others z
abbrev pub and_or_input : Input → Input → Input → Input
and_or_input x y z =
    cond (is_zero x && (is_zero y && is_zero z)) Zero
    (cond ((is_zero x && (is_one y && is_one z)) || (is_one x && (is_zero y && is_zero z))) One Any)

abbrev pub and_or : Correctness → Correctness → Correctness → Result Correctness TypeError
and_or x y z =
    ok_if (is_bdu x && same_bkv y.base z.base)
    (correctness y.base (and_or_input x.input y.input z.input) z.dissatisfiable (y.unit && z.unit))

-- any number of children: the first is B, the others W, each is unit and dissatisfiable; more than one element counts as two

abbrev pub first_b : List Correctness → Bool
first_b [] = true
first_b (x ∷ xs) = is_b x.base && all (λ y. is_w y.base) xs

abbrev pub num_args : Input → ℕ
num_args Zero = 0
num_args One = 1
num_args Any = 2
num_args OneNonZero = 1
num_args AnyNonZero = 2

abbrev pub threshold_input : ℕ → Input
threshold_input n = cond (eqb n 0) Zero (cond (eqb n 1) One Any)

abbrev pub threshold : List Correctness → Result Correctness TypeError
threshold xs =
    ok_if (first_b xs && all (λ x. x.unit && x.dissatisfiable) xs)
    (correctness B (threshold_input (sum (λ x. num_args x.input) xs)) true true)
