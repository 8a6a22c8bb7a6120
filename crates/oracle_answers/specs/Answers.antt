-- Whether what was given for a case of the stored list is what its line says. Assumes nothing.
use Rattle.std.specs.Prelude.{Bool, ◌&&◌, List, ℕ, eqb}
use Rattle.definition.specs.AnswersOfTheRust.{same_bytes}
use Rattle.oracle_lines.specs.declared.Said.{Said}

-- the number, the output, the bits of the cost, whether it is never, and the nodes
abbrev pub answers : Said → (number : ℕ) → (written stored : List ℕ) → (cost never nodes : ℕ) → Bool
answers s number written stored cost never nodes =
    eqb number s.number && (same_bytes written stored && ((eqb cost s.cost && eqb never s.never) && eqb nodes s.nodes))
