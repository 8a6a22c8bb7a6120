-- A type's properties as the bits of a number, one for each of BIP 379's letters: B K V W, z o n, d, u, f e, s, m, the last one lowest.
use Rattle.std.specs.Prelude.{Bool, ℕ, ◌+◌, ◌*◌, eqb}
use Rattle.std.specs.Int.Bits.{bit_and}
use Rattle.contexts.specs.Bools.{bool_rank}
use Rattle.types.specs.Names.{Base, B, K, «V», W, Input, Zero, One, Any, OneNonZero, AnyNonZero, Dissat, None, Unique, Unknown}
use Rattle.types.specs.Names.{Correctness, Malleability, «Type»}

-- B K V W
abbrev pub base_bits : Base → ℕ
base_bits B = 8
base_bits K = 4
base_bits «V» = 2
base_bits W = 1

-- z o n
abbrev pub input_bits : Input → ℕ
input_bits Zero = 4
input_bits One = 2
input_bits Any = 0
input_bits OneNonZero = 3
input_bits AnyNonZero = 1

-- f e
abbrev pub dissat_bits : Dissat → ℕ
dissat_bits None = 2
dissat_bits Unique = 1
dissat_bits Unknown = 0

-- B K V W z o n d u
abbrev pub corr_mask : Correctness → ℕ
corr_mask c = (base_bits c.base * 8 + input_bits c.input) * 4 + (bool_rank c.dissatisfiable * 2 + bool_rank c.unit)

-- f e s m
abbrev pub mall_mask : Malleability → ℕ
mall_mask m = dissat_bits m.dissat * 4 + (bool_rank m.safe * 2 + bool_rank m.non_malleable)

abbrev pub mask : «Type» → ℕ
mask t = corr_mask t.corr * 16 + mall_mask t.mall

-- each bit of y is one of x
abbrev pub has_all : ℕ → ℕ → Bool
has_all x y = eqb (bit_and x y) y
