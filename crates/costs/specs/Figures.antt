-- The figures that document 01, "Figures to meet", gives for costs, each beside the rule that must give it. Assumes nothing.
use Rattle.std.specs.Prelude.{ℕ, ◌-◌, ◌^◌, Bool, true, false, ◌&&◌, List, [], ◌∷◌, pos, ◌==◌, to_bits, Float, Option, None, Some}
use Rattle.std.specs.Float.{fin, binary64}
use Rattle.costs.specs.Names.{Ecdsa, Schnorr, Cost}
use Rattle.costs.specs.Arithmetic.{◌⊘◌, float_of}
use Rattle.costs.specs.Rules.{cost, sat, dissat, TRUE, FALSE, pk_k, pk_h, multi, multi_a, hash, cast_likely}
use Rattle.costs.specs.Rules.{or_b, or_d, or_i, and_or, threshold}
use Rattle.costs.specs.Weights.{weights}

-- what a rule gives, and the figure for it
pub record Figure : Type 0 where
  pub given : Option Cost
  pub wanted : Option Cost

-- the figures of a rule that always answers, in whole bytes
infix 70 ◌is◌and◌
abbrev pub ◌is◌and◌ : Cost → ℕ → ℕ → Figure
c is s and d = record { given = Some c; wanted = Some (cost (float_of s) (Some (float_of d))) }

infix 70 ◌answers◌and◌
abbrev pub ◌answers◌and◌ : Option Cost → Float → Float → Figure
r answers s and d = record { given = r; wanted = Some (cost s (Some d)) }

-- so many half bytes
abbrev pub halves : ℕ → Float
halves n = float_of n ⊘ float_of 2

-- the largest finite float
abbrev pub largest : Float
largest = fin false (2 ^ 53 - 1) (pos 971)

-- a rule at equal weights
abbrev pub evenly : {A : Type 0} → (Float → Float → A) → A
evenly rule = rule (weights 1 1).lw (weights 1 1).rw

abbrev pub key : Cost
key = pk_k Ecdsa

unfoldable pub figures : List Figure
figures =
    pk_k Ecdsa is 73 and 1
    ∷ pk_h Ecdsa is 107 and 35
    ∷ pk_k Schnorr is 66 and 1
    ∷ pk_h Schnorr is 99 and 34
    ∷ hash is 33 and 33
    ∷ multi 2 3 is 147 and 3
    ∷ multi_a 2 3 is 133 and 3
    ∷ evenly (or_b key key) answers float_of 74 and float_of 2
    ∷ evenly (or_d key key) answers halves 147 and float_of 2
    ∷ Some (evenly (or_i key key)) answers halves 149 and float_of 2
    ∷ evenly (and_or key key key) answers float_of 110 and float_of 2
    ∷ threshold 1 2 (key ∷ key ∷ []) answers float_of 74 and float_of 2
    ∷ cast_likely TRUE is 1 and 2
    ∷ record { given = Some TRUE; wanted = Some (cost (float_of 0) None) }
    ∷ Some FALSE answers largest and float_of 0
    ∷ []

-- whether two answers agree in every bit

abbrev pub same_float : Float → Float → Bool
same_float x y = to_bits binary64 x == to_bits binary64 y

abbrev pub same_dissat : Option Float → Option Float → Bool
same_dissat (Some x) (Some y) = same_float x y
same_dissat (Some x) None = false
same_dissat None (Some y) = false
same_dissat None None = true

abbrev pub same_costed : Option Cost → Option Cost → Bool
same_costed (Some x) (Some y) = same_float (sat x) (sat y) && same_dissat (dissat x) (dissat y)
same_costed (Some x) None = false
same_costed None (Some y) = false
same_costed None None = true

unfoldable pub all_right : List Figure → Bool
all_right [] = true
all_right (f ∷ fs) = same_costed f.given f.wanted && all_right fs
