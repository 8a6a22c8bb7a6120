-- `compile::pick` meets its contract: the cheapest of base B, if there is one and it is safe. Assumes nothing.
use Rattle.compile.proofs.Picking.{none-picked, safe-picked, unsafe-refused}
use Rattle.compile.proofs.pick.Goals as goal

pub returns-then-is_safe : goal.returns-then-is_safe
returns-then-is_safe c = safe-picked c.args.work.now c.args.s c.choose.ensures _ c.in-Some.is c.is_safe.ensures c.if-is_safe.true

pub returns-in_default : goal.returns-in_default
returns-in_default c = none-picked c.args.work.now c.args.s c.choose.ensures c.in_default.is

pub returns : goal.returns
returns c = unsafe-refused c.args.work.now c.args.s c.choose.ensures _ c.in-Some.is c.is_safe.ensures c.if-is_safe.false
