-- `trees::take_children` meets its contract: those still to come, with those taken before them, are all. Assumes nothing.
use mathlib.Core.Path.{◌≡◌}
use Prim.Native.Nat.{◌≤◌}
use lib.ListN.{length, take}
use Rattle.trees.specs.Reading.{take_all}
use Rattle.trees.specs.WorkMemory.{slots_in}
use Rattle.trees.proofs.InMemory.{ToCome}
use Rattle.trees.proofs.take_children.Given as goal

abbrev pub invariant-loop-i : goal.invariant-loop-i
invariant-loop-i l = ToCome l.children l.n (take_all (take l.n l.children) (slots_in l.initial.work l.read)) l.subtrees l.i (slots_in l.work l.read)
    × (l.i ≤ l.n) × (length l.subtrees ≡ 16) × (length l.work ≡ length l.initial.work) × (length l.children ≡ 16)
