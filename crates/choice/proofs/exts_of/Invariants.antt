-- `choice::exts_of` meets its contract: the first i are filled. Assumes nothing.
use mathlib.Core.Path.{◌≡◌}
use mathlib.Core.List.{map}
use lib.ListN.{length, take}
use Rattle.nodes.specs.Words.{node_at}
use Rattle.choice.proofs.exts_of.Given as goal

abbrev pub invariant-loop-i : goal.invariant-loop-i
invariant-loop-i l = (length l.exts ≡ 16) × (take l.i l.exts ≡ map (λ e. (node_at l.work e).ext) (take l.i l.row))
