-- `chosen::write` meets its contract: after i turns the first i bytes stand at the front. Assumes nothing.
use native.Mathlib.Omega.{arith}
use Prim.Native.Nat.{ℕ}
use Rattle.std.proofs.lemmas.List.{length-take}
use Rattle.chosen.proofs.Words.{copied_more}
use Rattle.chosen.proofs.write.Goals as goal

pub loop-i-preserved : goal.loop-i-preserved
loop-i-preserved c = copied_more c.args.work.now c.requires.0 0 c.loop-i.byte-items c.loop-i.i c.loop-i.i (omega arith) (omega (arith, length-take {A = ℕ})) (omega (arith, length-take {A = ℕ})) c.loop-i.invariant _ c.byte_at.ensures
