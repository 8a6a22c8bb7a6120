-- `records::children_at` meets its contract: after i turns the first i children stand in their places. Assumes nothing.
use mathlib.Core.Path.{◌≡◌, refl}
use native.Mathlib.Omega.{arith}
use Rattle.records.specs.Numbers.{u16s}
use Rattle.records.proofs.Numbers.{next-child}
use Rattle.records.proofs.children_at.Goals as goal

pub loop-i-init : goal.loop-i-init
unfolding u16s
loop-i-init c = (refl, omega arith)

pub loop-i-preserved : goal.loop-i-preserved
loop-i-preserved c = (
  rw (c.loop-i.invariant.0, c.u16_or_zero.ensures) (next-child c.args.bytes.now c.args.at c.loop-i.i (omega arith)),
  omega arith,
)

pub returns : goal.returns
returns c = let e : c.loop-i.i ≡ c.args.count = omega arith in
    rw (← e) c.loop-i.invariant.0
