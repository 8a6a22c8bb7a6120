-- Where a record ends, by what `length_at` told. Assumes nothing.
use Prim.Native.Nat.{ℕ, ◌+◌, ◌≤◌}
use mathlib.Core.List.{List}
use Rattle.std.specs.Prelude.{Option, None, Some}
use mathlib.Core.Path.{◌≡◌, sym, ap}
use native.Mathlib.Omega.{arith}
use lib.ListN.{length, drop}
use Rattle.records.specs.Numbers.{or_zero}
use Rattle.records.specs.RecordForm.{record_length}
use Rattle.records.proofs.Laws.{whole_length, broken-length, whole_room}
use Rattle.walk.specs.TreeRecords.{length_from}

module _ (tree : List ℕ) (at : ℕ) {r : Option ℕ} (told : r ≡ (record_length (drop at tree))) where
  pub end-inside : {n : ℕ} → r ≡ Some n → at + n ≤ length tree
  end-inside w = whole_room tree at (whole_length tree at told w)

  pub end_whole : {n : ℕ} → r ≡ Some n → at + n ≡ at + length_from tree at
  end_whole w = ap (λ (o : Option ℕ). at + or_zero o) (sym (whole_length tree at told w))

  pub end-broken : r ≡ None → at ≡ at + length_from tree at
  end-broken b = omega (arith, ap or_zero (broken-length tree at told b))
