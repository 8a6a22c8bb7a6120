-- Reports of a replay counted by verdict: document 02, R-6. A report is 8 bytes, the entry's number and its verdict, a u32 each: 0 agrees,
-- 1 differs, 2 mismatched, 3 too large.
use Rattle.std.specs.Prelude.{ℕ, zero, suc, ◌+◌, ◌*◌, Bool, true, false, List, eqb}
use Rattle.records.specs.Numbers.{u32}
use Rattle.spend_tally.specs.declared.Tally.{Tally}

-- the entry's number in report i, and its verdict
abbrev pub number_in : List ℕ → ℕ → ℕ
number_in reports i = u32 reports (8 * i)

abbrev pub verdict_in : List ℕ → ℕ → ℕ
verdict_in reports i = u32 reports (8 * i + 4)

-- 1 for true, 0 for false
abbrev pub one : Bool → ℕ
one true = 1
one false = 0

-- how many of the first n reports have a verdict
unfoldable pub count_of : List ℕ → (verdict n : ℕ) → ℕ
count_of reports verdict zero = 0
count_of reports verdict (suc n) = count_of reports verdict n + one (eqb (verdict_in reports n) verdict)

abbrev pub tally_of : List ℕ → (n : ℕ) → Tally
tally_of reports n =
    record {
      agree = count_of reports 0 n;
      differ = count_of reports 1 n;
      mismatched = count_of reports 2 n;
      too_large = count_of reports 3 n;
    }
