-- When one correctness is a subtype of another, from `is_subtype` in types/correctness.rs.
use Rattle.std.specs.Prelude.{Bool, true, ◌&&◌}
use Rattle.contexts.specs.Bools.{implies}
use Rattle.correctness.specs.Names.{Input, Zero, One, Any, OneNonZero, AnyNonZero, Correctness}
use Rattle.correctness.specs.Letters.{base_eq, is_zero, is_one, is_non_zero}

abbrev pub is_one_non_zero : Input → Bool
is_one_non_zero a = is_one a && is_non_zero a

-- every input is a subtype of itself and of Any, and OneNonZero one of One and of AnyNonZero
abbrev pub input_sub : Input → Input → Bool
input_sub a Zero = is_zero a
input_sub a One = is_one a
input_sub a Any = true
input_sub a OneNonZero = is_one_non_zero a
input_sub a AnyNonZero = is_non_zero a

abbrev pub corr_sub : Correctness → Correctness → Bool
corr_sub x y =
    (base_eq x.base y.base && input_sub x.input y.input)
    && (implies y.dissatisfiable x.dissatisfiable && implies y.unit x.unit)
