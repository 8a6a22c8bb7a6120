-- What the parts of reading a memory answer. Assumes nothing.
use Rattle.std.specs.Prelude.{false, List, ◌≡◌, ℕ, ◌+◌, ◌≤◌, length, take, drop, Option, None, Some}
use Rattle.memory.specs.Layout.{work_words}
use Rattle.records.specs.RecordForm.{record_length}
use Rattle.trees.specs.Reading.{max_records}
use Rattle.chosen.specs.Form.{tree_bytes, room_in, held_in}
use Rattle.chosen.specs.Chosen.{with_record, in_order, chosen_of}
use Rattle.chosen.specs.declared.Next.{Next}

-- the first words of a list are the roots that a record leaves, or there are none
pub data Leaves (o : Option (List ℕ)) (own : ℕ) (roots : List ℕ) : Option ℕ → Type 0 where
  leaves : {top : ℕ} → o ≡ Some (take top roots) → top ≤ own + 1 → length roots ≡ max_records → Leaves o own roots (Some top)
  broken : o ≡ None → length roots ≡ max_records → Leaves o own roots None

-- a record is read from the front of some bytes, and how the others go on is left; or they write no tree
pub data Reads (s : List ℕ) (own : ℕ) (before roots : List ℕ) : Option Next → Type 0 where
  reads : {next : Next} → record_length s ≡ Some next.len → with_record before own (take next.len s) ≡ Some (take next.top roots) → next.top ≤ own + 1
      → length roots ≡ max_records → Reads s own before roots (Some next)
  stops : ((more : ℕ) → in_order more own before s ≡ false) → length roots ≡ max_records → Reads s own before roots None

-- how many bytes a memory holds, or that it holds none
pub data Tells (m : List ℕ) : Option ℕ → Type 0 where
  bytes : {n : ℕ} → chosen_of m ≡ Some (take n (room_in m)) → n ≤ tree_bytes → length m ≡ work_words → Tells m (Some n)
  nothing : chosen_of m ≡ None → Tells m None
