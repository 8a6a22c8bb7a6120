-- `trees::tallest` meets its contract: those still to come, with the tallest before them, are all. Assumes nothing.
use Rattle.std.proofs.Common.{rules}
use mathlib.Core.Path.{◌≡◌}
use native.Mathlib.Omega.{arith}
use lib.ListN.{length}
use Rattle.trees.proofs.Subtrees.{tall-next, tall-end}
use Rattle.trees.proofs.tallest.Goals as goal

pub loop-i-preserved : goal.loop-i-preserved
loop-i-preserved c = let length-16 : length c.args.subtrees ≡ 16 = search rules in (
  omega arith,
  tall-next c.args.subtrees c.args.n _ c.loop-i.tall c.max-tall.result c.loop-i.i (omega arith) (omega (arith, length-16))
      c.max-tall.ensures c.loop-i.invariant.1,
)

pub returns : goal.returns
returns c = tall-end c.args.subtrees c.args.n c.loop-i.tall c.loop-i.i (omega arith) c.loop-i.invariant.1
