-- `differ::tell` meets its contract: the two numbers are written where both fit. Assumes nothing.
use mathlib.Core.Path.{refl}
use Rattle.differ.proofs.Telling.{told-one, untold-one}
use Rattle.differ.proofs.tell.Goals as goal

pub returns-then-place-out : goal.returns-then-place-out
returns-then-place-out c = told-one c.args.out.now c.args.at (record { left = c.args.left; right = c.args.right }) c.if-place-out.true refl refl c.put_u32.ensures.s_after c.put_u32-then-place-out.ensures.s_after

pub returns : goal.returns
returns c = untold-one c.args.out.now c.args.at (record { left = c.args.left; right = c.args.right }) c.if-place-out.false
