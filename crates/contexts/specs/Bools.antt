-- What is said of two bools, from `>=` in types/correctness.rs and types/malleability.rs, and a bool as a digit of a packed number.
use Rattle.std.specs.Prelude.{Bool, true, false, ℕ, eqb}

abbrev pub implies : Bool → Bool → Bool
implies true b = b
implies false b = true

abbrev pub bool_rank : Bool → ℕ
bool_rank false = 0
bool_rank true = 1

abbrev pub bool_of : ℕ → Bool
bool_of n = eqb n 1
