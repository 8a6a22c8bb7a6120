-- The rules give every figure of document 01, the literals are the numbers that they name, and the weights of an Or are summed with no
-- limit: each computed from the definitions. Assumes nothing.
use Rattle.std.proofs.Common.{◌≡◌, true, [], ◌∷◌, refl}
use lib.Ieee.{binary64, add, sub, mul, div, lt, of_bits, to_bits, of_int}
use Rattle.costs.specs.Arithmetic.{float_of, 0·, 1·, 2·, 33·, 34·, 64·, 66·, 73·, MAX}
use Rattle.costs.specs.Rules.{or_b, or_d, or_i, and_or, plus_all, threshold}
use Rattle.costs.specs.Weights.{weights}
use Rattle.costs.specs.Figures.{figures, all_right, largest}

pub figures-right : all_right figures ≡ true
unfolding all_right figures or_b or_d or_i and_or plus_all threshold add sub mul div lt of_bits to_bits of_int
figures-right = refl

pub literals-right :
    (0· ∷ 1· ∷ 2· ∷ 33· ∷ 34· ∷ 64· ∷ 66· ∷ 73· ∷ MAX ∷ [])
    ≡ (float_of 0 ∷ float_of 1 ∷ float_of 2 ∷ float_of 33 ∷ float_of 34 ∷ float_of 64 ∷ float_of 66 ∷ float_of 73 ∷ largest ∷ [])
unfolding of_bits of_int
literals-right = refl

-- 4,294,967,295 and 1 are 4,294,967,296: the weights are 1 - 2^-32 and 2^-32
pub weights-not-wrapped :
    weights 4294967295 1 ≡ record { lw = of_bits binary64 0x3fef_ffff_ffe0_0000; rw = of_bits binary64 0x3df0_0000_0000_0000 }
unfolding div of_bits of_int
weights-not-wrapped = refl
