-- `spend_asks::check_time` meets its contract. Assumes nothing.
use Prim.Native.Nat.{◌-◌}
use mathlib.Core.Bool.{true, false}
use mathlib.Core.Path.{◌≡◌, refl, ◌∙◌, ap}
use lib.Dec.{leb}
use lib.ListN.{length}
use Rattle.script_machine.specs.Machine.{ok}
use Rattle.spend_elements.specs.Elements.{bytes_in}
use Rattle.spend_elements.specs.Signed.{IsRead}
use Rattle.spend_stack.specs.Machines.{element_at}
use Rattle.spend_stack.specs.declared.Machine.{Machine}
use Rattle.spend_stack.specs.declared.Status.TheVariants as Status
use Rattle.spend_stack.specs.Machines.{with_status}
use Rattle.spend_stack.proofs.Laws.{not-ready, aborts}
use Rattle.spend_asks.proofs.Next.{first-no, first-yes}
use Rattle.spend_asks.proofs.Telling.{timed, time-tells, time-long, time-none, tells-stuck, tells-abort, tells-keep}
use Rattle.spend_asks.proofs.check_time.Goals as goal

pub returns-in-Err : goal.returns-in-Err
returns-in-Err c kind = not-ready 1 c.requires c.in-Err.ensures (time-none c.args.log.now c.args.main.now c.args.m kind)

pub taken-requires : goal.taken-requires
taken-requires c = (c.requires.asks, (first-no c.args.log.now c.args.m c.say-s.ensures c.in-No.is).some_left)

pub taken-requires-in-Yes : goal.taken-requires-in-Yes
taken-requires-in-Yes c = (c.requires.asks, (first-yes c.args.log.now c.args.m c.say-s.ensures c.in-Yes.is).some_left)

pub returns-in_default : goal.returns-in_default
returns-in_default c kind = let long : leb (length (bytes_in c.args.log.now (element_at c.args.main.now (c.args.m.main - 1)))) 4 ≡ false =
    rw c.get-e.ensures at c.in_default.ensures in
    aborts c.in-Ok.ensures.0 c.requires c.with_status.ensures (time-long c.args.log.now c.args.main.now c.args.m kind c.in-Ok.ensures.1 long)

pub returns-in-Neither : goal.returns-in-Neither
returns-in-Neither c kind = let number : IsRead (bytes_in c.args.log.now (element_at c.args.main.now (c.args.m.main - 1))) c.in-Some._x =
    rw c.get-e.ensures at c.in-Some.ensures in
    tells-stuck (timed c.args.log.now c.args.main.now c.args.m) c.in-Ok.ensures.0 c.requires
    (time-tells c.args.log.now c.args.main.now c.args.m kind c.in-Ok.ensures.1 number.short) c.say-s.ensures
    c.in-Neither.is c.with_status-in-Neither.ensures

pub returns-in-No : goal.returns-in-No
unfolding ok
returns-in-No c kind = let number : IsRead (bytes_in c.args.log.now (element_at c.args.main.now (c.args.m.main - 1))) c.in-Some._x =
    rw c.get-e.ensures at c.in-Some.ensures in
    tells-abort (timed c.args.log.now c.args.main.now c.args.m) c.in-Ok.ensures.0 c.requires
    (time-tells c.args.log.now c.args.main.now c.args.m kind c.in-Ok.ensures.1 number.short) false
    (first-no c.args.log.now c.args.m c.say-s.ensures c.in-No.is)
    (c.with_status-in-No.ensures ∙ ap (λ (m : Machine). with_status m Status.Aborted) c.taken.ensures) (λ a. refl)

pub returns-in-Yes : goal.returns-in-Yes
unfolding ok
returns-in-Yes c kind = let number : IsRead (bytes_in c.args.log.now (element_at c.args.main.now (c.args.m.main - 1))) c.in-Some._x =
    rw c.get-e.ensures at c.in-Some.ensures in
    tells-keep (timed c.args.log.now c.args.main.now c.args.m) c.in-Ok.ensures.0 c.requires
    (time-tells c.args.log.now c.args.main.now c.args.m kind c.in-Ok.ensures.1 number.short) true
    (first-yes c.args.log.now c.args.m c.say-s.ensures c.in-Yes.is) c.taken-in-Yes.ensures (λ a. refl)
