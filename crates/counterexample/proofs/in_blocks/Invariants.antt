-- `counterexample::in_blocks` meets its contract: what is found in a block shows a difference. Assumes nothing.
use mathlib.Core.Path.{◌≡◌}
use lib.ListN.{length}
use Rattle.counterexample.proofs.in_blocks.Given as goal

abbrev pub invariant-loop-block : goal.invariant-loop-block
invariant-loop-block l = length l.work ≡ length l.initial.work
