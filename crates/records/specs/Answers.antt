-- What the readers of a record answer: the definitions of RecordForm and Payloads, as values of this crate's types. Assumes nothing.
use Rattle.std.specs.Prelude.{true, false, List, [], ◌++◌, ℕ, ◌-◌, length, replicate, Option, None, Some}
use Rattle.records.specs.Numbers.{max_count}
use Rattle.records.specs.Payloads.{Payload, number_of, k_of, count_of, children_of, left_weight_of, right_weight_of}
use Rattle.records.specs.declared.Parts.{Parts}

-- sixteen places: the children, then zeros
abbrev pub padded : List ℕ → List ℕ
padded cs = cs ++ replicate (max_count - length cs) 0

abbrev pub parts_of : Option Payload → Parts
parts_of (Some p) = record {
  fits = true;
  number = number_of p;
  k = k_of p;
  count = count_of p;
  children = padded (children_of p);
  left_weight = left_weight_of p;
  right_weight = right_weight_of p;
}
parts_of None = record { fits = false; number = 0; k = 0; count = 0; children = padded []; left_weight = 0; right_weight = 0 }
