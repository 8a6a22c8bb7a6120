-- `oracle_lines::end_of` meets its contract: the piece goes on up to the sign or the end. Assumes nothing.
use mathlib.Core.Path.{◌≡◌}
use native.Mathlib.Omega.{arith}
use lib.ListN.{length}
use Rattle.oracle_lines.proofs.Splits.{reached-first, reached-next, ends-at-sign, ends-at-end}
use Rattle.oracle_lines.proofs.end_of.Goals as goal

pub loop-i-init : goal.loop-i-init
loop-i-init c = reached-first c.args.sign c.args.s.now c.args.from c.requires

pub returns-then-s-i : goal.returns-then-s-i
returns-then-s-i c = ends-at-sign c.args.sign c.args.s.now c.args.from c.loop-i.i c.loop-i.invariant c.loop-i-test.true c.if-s-i.true

pub loop-i-preserved : goal.loop-i-preserved
loop-i-preserved c = reached-next c.args.sign c.args.s.now c.args.from c.loop-i.i c.loop-i.invariant c.loop-i-test.true c.if-s-i.false

pub returns : goal.returns
returns c =
    let e : c.loop-i.i ≡ length c.args.s.now = omega (arith, c.loop-i.invariant.within) in
    rw (← e) (ends-at-end c.args.sign c.args.s.now c.args.from c.loop-i.i c.loop-i.invariant (λ h. omega arith))
