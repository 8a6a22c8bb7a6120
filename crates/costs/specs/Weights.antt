-- The weights of an Or, from `total`, `lw` and `rw` in policy/compiler.rs: the sum is that of two numbers, of any size, rounded once.
-- Assumes nothing.
use Rattle.std.specs.Prelude.{ℕ, ◌+◌}
use Rattle.costs.specs.Names.{OrWeights}
use Rattle.costs.specs.Arithmetic.{◌⊘◌, float_of}

abbrev pub weights : ℕ → ℕ → OrWeights
weights l r = record { lw = float_of l ⊘ float_of (l + r); rw = float_of r ⊘ float_of (l + r) }
