-- `chosen::hold` meets its contract: after i turns i words are filled. Assumes nothing.
use mathlib.Core.Path.{◌≡◌}
use Prim.Native.Nat.{◌+◌, ◌*◌, ◌-◌, ◌≤◌}
use lib.ListN.{length}
use Rattle.memory.specs.Layout.{work_words}
use Rattle.chosen.proofs.Filling.{Filled}
use Rattle.chosen.proofs.hold.Given as goal

abbrev pub invariant-loop-i : goal.invariant-loop-i
invariant-loop-i l = Filled l.bytes l.n l.work l.i × (length l.work ≡ work_words) × (8 * l.i ≤ l.n + 7)
