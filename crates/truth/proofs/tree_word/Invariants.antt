use Prim.Native.Nat.{◌-◌}
use lib.ListN.{length}
use Rattle.variables.specs.Gathering.{row_of}
use Rattle.truth.proofs.RecordWords.{WordsOn}
use Rattle.truth.proofs.tree_word.Given as goal

abbrev pub invariant-loop-at : goal.invariant-loop-at
invariant-loop-at l = WordsOn l.tree l.work (row_of l.t) l.words l.at l.i

abbrev pub decreases-loop-at : goal.decreases-loop-at
decreases-loop-at l = length l.tree - l.at
