-- The f64 arithmetic of policy/compiler.rs: IEEE 754 binary64, each operation rounded once, and the literals that the rules name, by
-- their bits. proofs/Figures.antt shows each literal to be its number. Assumes nothing.
use Rattle.std.specs.Prelude.{ℕ, pos, from_bits, Float}
use Rattle.std.specs.Float.{binary64}
use Rattle.std.specs.Float.Ieee.{add, sub, mul, div, of_int}

infixl 60 ◌⊕◌
abbrev pub ◌⊕◌ : Float → Float → Float
x ⊕ y = add binary64 x y

infixl 60 ◌⊖◌
abbrev pub ◌⊖◌ : Float → Float → Float
x ⊖ y = sub binary64 x y

infixl 70 ◌⊗◌
abbrev pub ◌⊗◌ : Float → Float → Float
x ⊗ y = mul binary64 x y

infixl 70 ◌⊘◌
abbrev pub ◌⊘◌ : Float → Float → Float
x ⊘ y = div binary64 x y

-- `n as f64`: the float nearest to a number
abbrev pub float_of : ℕ → Float
float_of n = of_int binary64 (pos n)

abbrev pub 0· : Float
0· = from_bits binary64 0x0000_0000_0000_0000

abbrev pub 1· : Float
1· = from_bits binary64 0x3ff0_0000_0000_0000

abbrev pub 2· : Float
2· = from_bits binary64 0x4000_0000_0000_0000

abbrev pub 33· : Float
33· = from_bits binary64 0x4040_8000_0000_0000

abbrev pub 34· : Float
34· = from_bits binary64 0x4041_0000_0000_0000

abbrev pub 64· : Float
64· = from_bits binary64 0x4050_0000_0000_0000

abbrev pub 66· : Float
66· = from_bits binary64 0x4050_8000_0000_0000

abbrev pub 73· : Float
73· = from_bits binary64 0x4052_4000_0000_0000

-- the largest finite float
abbrev pub MAX : Float
MAX = from_bits binary64 0x7fef_ffff_ffff_ffff
