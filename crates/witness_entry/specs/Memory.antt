-- The extremes of records in work memory, two words a record: those of its satisfactions, then those of its dissatisfactions.
use Rattle.std.specs.Prelude.{ℕ, zero, suc, ◌+◌, ◌*◌, ◌/◌, ◌%◌, ◌≤◌, ◌<◌, List, ◌≡◌, length, get_or, set, None, Some}
use Rattle.witness_ways.specs.declared.Both.{Both}
use Rattle.witness_ways.specs.Extremes.{Extremes, bytes, ways}
use Rattle.witness_rules.specs.Bounds.{AllBelow, neither, small}

-- a word: 0 where there is no way, else one more than the smallest and 2^32 times the largest
abbrev pub word_of : Extremes → ℕ
word_of None = 0
word_of (Some x) = 1 + (x.fewest + x.most * 4294967296)

abbrev pub extremes_in : ℕ → Extremes
extremes_in zero = None
extremes_in (suc w) = bytes (w % 4294967296) (w / 4294967296)

-- those of record i
unfoldable pub both_in : List ℕ → ℕ → Both
both_in work i = ways (extremes_in (get_or work (2 * i) 0)) (extremes_in (get_or work (2 * i + 1) 0))

unfoldable pub put_both : List ℕ → ℕ → Both → List ℕ
put_both work i x = set (set work (2 * i) (word_of x.satisfied)) (2 * i + 1) (word_of x.dissatisfied)

-- those of the first n of some records, and none past them
pub record Loaded (work numbers : List ℕ) (n : ℕ) (out : List Both) : Type 0 where
  pub long : length out ≡ 16
  pub each : (j : ℕ) → j < n → get_or out j neither ≡ both_in work (get_or numbers j 0)
  pub past : (j : ℕ) → n ≤ j → get_or out j neither ≡ neither
  pub few : AllBelow small out
