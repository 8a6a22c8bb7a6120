-- The outcomes of an entry where they stand in the log: document 02, R-6, by the places of `spend_log`, specs/Places.antt.
use Rattle.std.specs.Prelude.{ℕ, zero, suc, cond, List, [], ◌∷◌, eqb, take, drop}
use Rattle.script_machine.specs.Numbers.{Bytes}
use Rattle.spend_machine.specs.Entries.{Outcome, no, yes, digest}
use Rattle.spend_log.specs.Places.{outcome_at}
use Rattle.spend_log.specs.declared.OutcomeAt.{OutcomeAt}

-- the outcome that stands at a place: 2 is a digest, 1 yes, and any other byte no
abbrev pub outcome_by : Bytes → OutcomeAt → Outcome
outcome_by log o =
    cond (eqb o.sort 2) (digest (take o.digest.len (drop o.digest.start log))) (cond (eqb o.sort 1) yes no)

-- so many outcomes from a place on, and where they end
unfoldable pub outcomes_from : Bytes → ℕ → ℕ → List Outcome
outcomes_from log at zero = []
outcomes_from log at (suc n) = outcome_by log (outcome_at log at) ∷ outcomes_from log (outcome_at log at).next n

unfoldable pub outcomes_end : Bytes → ℕ → ℕ → ℕ
outcomes_end log at zero = at
outcomes_end log at (suc n) = outcomes_end log (outcome_at log at).next n
