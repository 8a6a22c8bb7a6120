-- Bounds on extremes, so that no sum wraps.
use Rattle.std.specs.Prelude.{ℕ, ◌^◌, ◌≤◌, ◌<◌, List, length, get_or, None, Some}
use Rattle.witness_ways.specs.declared.Bytes.{Bytes}
use Rattle.witness_ways.specs.declared.Both.{Both}
use Rattle.witness_ways.specs.Extremes.{Extremes, ways}

-- what a word has room for twice; sixteen of them, with any two of those to be added, are below the other
abbrev pub small : ℕ
small = 2 ^ 32

abbrev pub large : ℕ
large = 2 ^ 62

-- no way has more bytes
pub data Below (bound : ℕ) : Extremes → Type 0 where
  none : Below bound None
  both : {x : Bytes} → x.fewest ≤ bound → x.most ≤ bound → Below bound (Some x)

pub record BothBelow (bound : ℕ) (x : Both) : Type 0 where
  pub satisfied : Below bound x.satisfied
  pub dissatisfied : Below bound x.dissatisfied

-- what stands for a child that is not there
abbrev pub neither : Both
neither = ways None None

abbrev pub AllBelow : (bound : ℕ) → List Both → Type 0
AllBelow bound xs = (j : ℕ) → j < length xs → BothBelow bound (get_or xs j neither)

-- the extremes by count can be added to
abbrev pub RowBelow : List Extremes → Type 0
RowBelow row = (j : ℕ) → j < 17 → Below large (get_or row j None)
