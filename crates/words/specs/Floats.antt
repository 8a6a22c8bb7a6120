-- A float as one word of memory, and what a cost is: document 01, "Numbers the console shows" (the bits of the root's cost; NotACost,
-- number 10). Assumes nothing.
use Rattle.std.specs.Prelude.{Bool, false, not, ℕ, Float}
use Rattle.std.specs.Float.{nan, inf, fin, binary64}
use Rattle.std.specs.Float.Ieee.{to_bits, of_bits}

-- the bits of a float; every NaN has the bits 0x7ff8_0000_0000_0000
abbrev pub word_of_float : Float → ℕ
word_of_float x = to_bits binary64 x

-- the float of any bits
abbrev pub float_of_word : ℕ → Float
float_of_word w = of_bits binary64 w

-- a NaN is no cost, and what has its sign bit set, -0.0 too, is none
abbrev pub is_cost : Float → Bool
is_cost nan = false
is_cost (inf sign) = not sign
is_cost (fin sign mantissa exponent) = not sign
