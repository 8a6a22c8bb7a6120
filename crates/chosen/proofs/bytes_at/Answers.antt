-- `chosen::bytes_at` meets its contract: after j turns the first j bytes stand in their places. Assumes nothing.
use native.Mathlib.Omega.{arith}
use Prim.Native.Nat.{ℕ, ◌+◌}
use Rattle.std.proofs.lemmas.List.{length-take}
use Rattle.chosen.proofs.Words.{copied_more}
use Rattle.chosen.proofs.bytes_at.Goals as goal

pub loop-j-preserved : goal.loop-j-preserved
loop-j-preserved c = copied_more c.args.work.now c.requires.0 c.args.at c.loop-j.byte-items c.loop-j.j (c.args.at + c.loop-j.j) (omega arith) (omega (arith, length-take {A = ℕ})) (omega (arith, length-take {A = ℕ})) c.loop-j.invariant _ c.byte_at.ensures
