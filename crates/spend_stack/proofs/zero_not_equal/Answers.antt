-- `spend_stack::zero_not_equal` meets its contract. Assumes nothing.
use Prim.Native.Nat.{◌-◌}
use mathlib.Core.Bool.{false}
use lib.Dec.{leb}
use lib.ListN.{length}
use mathlib.Core.Path.{◌≡◌, ◌∙◌, ap}
use Rattle.spend_elements.specs.Elements.{bytes_in}
use Rattle.spend_elements.specs.Signed.{IsRead}
use Rattle.spend_stack.specs.Machines.{element_at}
use Rattle.script_machine.specs.Numbers.{element, nonzero}
use Rattle.script_machine.specs.Words.{0NOTEQUAL}
use Rattle.spend_stack.proofs.Laws.{not-ready, aborts, leaves}
use Rattle.spend_stack.proofs.Steps.{without-one, zero-none, zero-on, zero-long}
use Rattle.spend_stack.proofs.zero_not_equal.Goals as goal

pub returns-in-Err : goal.returns-in-Err
returns-in-Err c = not-ready 1 c.requires c.in-Err.ensures (without-one c.args.log.now c.args.main.now c.args.m 0NOTEQUAL zero-none)

pub returns-in_default : goal.returns-in_default
returns-in_default c = let long : leb (length (bytes_in c.args.log.now (element_at c.args.main.now (c.args.m.main - 1)))) 4 ≡ false = rw c.get.ensures at c.in_default.ensures in
    aborts c.in-Ok.ensures.0 c.requires c.with_status.ensures (zero-long c.args.log.now c.args.main.now c.args.m c.in-Ok.ensures.1 long)

pub returns-in-Some : goal.returns-in-Some
returns-in-Some c = let told : IsRead (bytes_in c.args.log.now (element_at c.args.main.now (c.args.m.main - 1))) c.in-Some.x = rw c.get.ensures at c.in-Some.ensures in
    leaves c.in-Ok.ensures.0 c.requires c.over.ensures
    (c.test-e.ensures c.args.log.now ∙ ap element (c.nonzero.ensures ∙ ap nonzero told.is))
    (zero-on c.args.log.now c.args.main.now c.args.m c.in-Ok.ensures.1 told.short)
