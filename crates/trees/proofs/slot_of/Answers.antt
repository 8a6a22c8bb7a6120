-- `trees::slot_of` meets its contract: ten bits above the packed types hold nothing. Assumes nothing.
use Prim.Native.Nat.{◌/◌, ◌%◌}
use native.Mathlib.Omega.{arith}
use Rattle.trees.proofs.ByKind.{slot-empty, slot-full}
use Rattle.trees.proofs.slot_of.Goals as goal

pub returns-then-packed-eq0 : goal.returns-then-packed-eq0
returns-then-packed-eq0 c = (slot-empty _ _ c.if-packed-eq0.true)

pub returns : goal.returns
returns c = rw (slot-full (c.args.word / 0x400) (c.args.word % 0x400) (omega arith), ← c.in_ok-ty.ensures)
