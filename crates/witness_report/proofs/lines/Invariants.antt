-- `witness_report::lines` meets its contract: one line after the other. Assumes nothing.
use Prim.Native.Nat.{◌+◌, ◌-◌}
use lib.ListN.{length}
use Rattle.witness_report.proofs.Lists.{Going, Kept}
use Rattle.witness_report.proofs.lines.Given as goal

abbrev pub invariant-loop-at : goal.invariant-loop-at
invariant-loop-at g l = Going l.text l.tally l.at × Kept l.initial.room l.initial.work l.initial.out l.room l.work l.out l.block.used

abbrev pub decreases-loop-at : goal.decreases-loop-at
decreases-loop-at g l = length l.text + 1 - l.at
