use mathlib.Core.Path.{◌≡◌}
use lib.ListN.{length}
use Rattle.variables.specs.Gathering.{row_of}
use Rattle.truth.proofs.Deciding.{BlocksOn}
use Rattle.truth.proofs.alike.Given as goal

abbrev pub invariant-loop-block : goal.invariant-loop-block
invariant-loop-block l = BlocksOn l.pol l.root l.tree (row_of l.t) l.block × (length l.work ≡ length l.initial.work)
