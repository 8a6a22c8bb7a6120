use Rattle.std.proofs.Common.{rules}
use mathlib.Core.Path.{◌≡◌, ◌∙◌}
use native.Mathlib.Omega.{arith}
use lib.ListN.{length}
use Rattle.types.proofs.Threshold.{again, done}
use Rattle.types.proofs.Type.threshold.Goals as goal

pub loop-i-preserved : goal.loop-i-preserved
loop-i-preserved c = let length-16 : length c.args.subs ≡ 16 = search rules in (
  omega arith,
  (
    omega arith,
    again c.loop-i.children c.next-children.result c.args.subs _ c.args.n c.loop-i.i _
        (omega arith) (omega (arith, length-16)) c.next-children.ensures c.loop-i.invariant.1.1,
  ),
)

pub returns : goal.returns
returns c = c.threshold.ensures
    ∙ done c.loop-i.children c.first-children.result c.args.subs _ c.args.k c.args.n c.loop-i.i
    (omega arith) (omega arith) (omega arith) (search rules) (omega arith) c.first-children.ensures c.loop-i.invariant.1.1
