-- The counts and sums of a report: document 02, R-9. Assumes nothing.
use Rattle.std.specs.Prelude.{Bool, true, false, List, ◌≡◌, ℕ, ◌+◌, ◌*◌, ◌≤◌, length}
use Rattle.contexts.specs.Lists.{sum, count}
use Rattle.witness_tally.specs.declared.Outcome.{Outcome}
use Rattle.witness_tally.specs.declared.Outcome.TheVariants as Outcome
use Rattle.witness_tally.specs.declared.Tally.{Tally}

-- the three kinds of outcome
abbrev pub has_bytes : Outcome → Bool
has_bytes (Outcome.Bytes a b) = true
has_bytes Outcome.NoWay = false
has_bytes (Outcome.Refused n) = false

abbrev pub is_none : Outcome → Bool
is_none (Outcome.Bytes a b) = false
is_none Outcome.NoWay = true
is_none (Outcome.Refused n) = false

abbrev pub is_refused : Outcome → Bool
is_refused (Outcome.Bytes a b) = false
is_refused Outcome.NoWay = false
is_refused (Outcome.Refused n) = true

-- its bytes, 0 where it has none
abbrev pub fewest : Outcome → ℕ
fewest (Outcome.Bytes a b) = a
fewest Outcome.NoWay = 0
fewest (Outcome.Refused n) = 0

abbrev pub most : Outcome → ℕ
most (Outcome.Bytes a b) = b
most Outcome.NoWay = 0
most (Outcome.Refused n) = 0

-- the counts and sums of outcomes
abbrev pub tally_of : List Outcome → Tally
tally_of os = record { inputs = length os; none = count is_none os; refused = count is_refused os; smallest = sum fewest os; largest = sum most os }

-- with one outcome more
abbrev pub counted : Tally → Outcome → Tally
counted t (Outcome.Bytes a b) =
    record { inputs = t.inputs + 1; none = t.none; refused = t.refused; smallest = t.smallest + a; largest = t.largest + b }
counted t Outcome.NoWay =
    record { inputs = t.inputs + 1; none = t.none + 1; refused = t.refused; smallest = t.smallest; largest = t.largest }
counted t (Outcome.Refused n) =
    record { inputs = t.inputs + 1; none = t.none; refused = t.refused + 1; smallest = t.smallest; largest = t.largest }

-- ---- no count or sum wraps: an outcome adds at most 1 to a count and 2^31 to a sum

pub record Small (o : Outcome) : Type 0 where
  pub fewest : fewest o ≤ 2147483648
  pub most : most o ≤ 2147483648

pub record Few (t : Tally) : Type 0 where
  pub none : t.none ≤ t.inputs
  pub refused : t.refused ≤ t.inputs
  pub smallest : t.smallest ≤ t.inputs * 2147483648
  pub largest : t.largest ≤ t.inputs * 2147483648

-- ---- what is shown of them

-- The counts account for every outcome: each has bytes, has no way or is refused.
abbrev pub Accounts : Type 0
Accounts = (os : List Outcome) → (tally_of os).inputs ≡ count has_bytes os + ((tally_of os).none + (tally_of os).refused)
