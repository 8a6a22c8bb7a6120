-- The place of each variant in its order, from types/correctness.rs, and a correctness as the digits of a number: bases 4, 5, 2, 2.
use Rattle.std.specs.Prelude.{cond, ℕ, ◌+◌, ◌*◌, ◌/◌, ◌%◌, eqb}
use Rattle.contexts.specs.Bools.{bool_rank, bool_of}
use Rattle.correctness.specs.Names.{Base, B, K, «V», W, Input, Zero, One, Any, OneNonZero, AnyNonZero, Correctness}

abbrev pub base_rank : Base → ℕ
base_rank B = 0
base_rank K = 1
base_rank «V» = 2
base_rank W = 3

abbrev pub input_rank : Input → ℕ
input_rank Zero = 0
input_rank One = 1
input_rank Any = 2
input_rank OneNonZero = 3
input_rank AnyNonZero = 4

abbrev pub pack_corr : Correctness → ℕ
pack_corr c = ((base_rank c.base * 5 + input_rank c.input) * 2 + bool_rank c.dissatisfiable) * 2 + bool_rank c.unit

-- what a digit stands for; a digit that is too large stands for the last

abbrev pub base_of : ℕ → Base
base_of n = cond (eqb n 0) B (cond (eqb n 1) K (cond (eqb n 2) «V» W))

abbrev pub input_of : ℕ → Input
input_of n = cond (eqb n 0) Zero (cond (eqb n 1) One (cond (eqb n 2) Any (cond (eqb n 3) OneNonZero AnyNonZero)))

abbrev pub unpack_corr : ℕ → Correctness
unpack_corr n =
    record {
      base = base_of (n / 20);
      input = input_of (n / 4 % 5);
      dissatisfiable = bool_of (n / 2 % 2);
      unit = bool_of (n % 2);
    }
