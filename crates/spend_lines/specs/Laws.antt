-- Lines that are shown block by block are the lines of all.
use Rattle.std.specs.Prelude.{ℕ, ◌+◌, List, ◌++◌, ◌≡◌}
use Rattle.spend_lines.specs.Lines.{lines_of}

abbrev pub InBlocks : Type 0
InBlocks = (reports : List ℕ) (from a b : ℕ) → lines_of reports from (a + b) ≡ lines_of reports from a ++ lines_of reports (from + a) b
