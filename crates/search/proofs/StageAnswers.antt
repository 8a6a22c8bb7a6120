-- What the answers of `stage`, `search_all`, `pair_all`, `pair` and `wrapped_if_made` ask beside the lemmas of their own files: the rank
-- falls from a policy to what it asks for, and the elements that an array of asks or of pairings never gives. Assumes nothing.
use Rattle.std.specs.Prelude.{Float, Option, None}
use mathlib.Core.Path.{subst}
use mathlib.Core.List.{List}
use Prim.Native.Nat.{ℕ, ◌<◌, ◌≤◌}
use native.Mathlib.Omega.{arith}
use lib.Ieee.{nan}
use lib.ListN.{length, get_or, take}
use lib.Seq.{get_or-take, length-take-le}
use Rattle.policies.specs.Array.{policy_at}
use Rattle.search_state.specs.State.{load}
use Rattle.stages.specs.declared.Ask.{Ask}
use Rattle.stages.specs.declared.Pairing.{Pairing}
use Rattle.search.specs.Searching.{Lighter, AllLighter}
use Rattle.search.proofs.Ranks.{rank}
use Rattle.search.proofs.Asking.{lighter-at}

abbrev pub no_ask : Ask
no_ask = record { r = 0; sat = nan; dissat = None }

abbrev pub no_pairing : Pairing
no_pairing = record { kind = 0; first = 0; second = 0; third = 0; lw = nan; rw = nan }

-- to what is asked for
pub ask-falls : (pol : List ℕ) (r : ℕ) (dissat : Option Float) (asks : List Ask) (n : ℕ) → n ≤ length asks
    → AllLighter pol r dissat (take n asks) → (j : ℕ) → j < n
    → (d : Ask) (p q : ℕ) → p < 32 → rank pol (get_or asks j d).r (get_or asks j d).dissat p < rank pol r dissat q
ask-falls pol r dissat asks n few h j l d p q low =
    let at_j : Lighter pol r dissat (get_or asks j d) =
    subst (Lighter pol r dissat) (get_or-take n asks j d l) (lighter-at (take n asks) h j d (omega (arith, length-take-le n asks few))) in
    let falls : load (policy_at pol (get_or asks j d).r) (get_or asks j d).dissat < load (policy_at pol r) dissat = at_j.falls in
    omega (arith, falls)
