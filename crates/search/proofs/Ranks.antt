-- What falls in the search's cycle of calls: twice the weight with the flag of dissatisfaction, then the place in the cycle. Assumes nothing.
use Rattle.std.specs.Prelude.{Float, Option}
use mathlib.Core.List.{List}
use Prim.Native.Nat.{ℕ, ◌+◌, ◌*◌, ◌<◌}
use native.Mathlib.Omega.{arith}
use mathlib.Core.Path.{◌≡◌}
use Rattle.policies.specs.Array.{policy_at}
use Rattle.search_state.specs.State.{load}

abbrev pub rank : List ℕ → ℕ → Option Float → (place : ℕ) → ℕ
rank pol r d place = 32 * load (policy_at pol r) d + place

-- what is below a rank that is known
pub below : {a b t : ℕ} → a < b → b ≡ t → a < t
below h e = omega arith
