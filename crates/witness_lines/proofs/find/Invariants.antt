-- `witness_lines::find` meets its contract: the byte stands nowhere between the place it began at and the one it has come to. Assumes nothing.
use Prim.Native.Nat.{◌+◌}
use mathlib.Core.Path.{◌≡◌}
use lib.ListN.{drop}
use Rattle.witness_lines.specs.Lines.{index_of}
use Rattle.witness_lines.proofs.find.Given as goal

abbrev pub invariant-loop-at : goal.invariant-loop-at
invariant-loop-at l = l.at + index_of l.sign (drop l.at l.text) ≡ l.from + index_of l.sign (drop l.from l.text)
