-- `spend_asks::check_sig_add` meets its contract. Assumes nothing.
use Prim.Native.Nat.{◌-◌}
use mathlib.Core.Bool.{true, false}
use mathlib.Core.Path.{◌≡◌, refl, ◌∙◌, ap}
use lib.Dec.{leb}
use lib.ListN.{length}
use lib.IntN.{ℤ}
use Rattle.script_machine.specs.Numbers.{write}
use Rattle.script_machine.specs.Machine.{one_more}
use Rattle.spend_elements.specs.Elements.{bytes_in}
use Rattle.spend_elements.specs.Signed.{IsRead}
use Rattle.spend_stack.specs.Machines.{element_at}
use Rattle.spend_stack.proofs.Laws.{not-ready, aborts}
use Rattle.spend_asks.proofs.Next.{first-no, first-yes, fits_next}
use Rattle.spend_asks.proofs.Telling.{added, add-tells, add-long, add-short, tells-stuck, tells-over}
use native.Mathlib.Omega.{arith}
use Rattle.spend_asks.proofs.check_sig_add.Goals as goal

pub returns-in-Err : goal.returns-in-Err
returns-in-Err c = not-ready 3 c.requires c.in-Err.ensures (add-short c.args.log.now c.args.main.now c.args.m)

pub taken-requires : goal.taken-requires
taken-requires c = (c.requires.asks, (first-no c.args.log.now c.args.m c.say-s.ensures c.in-No.is).some_left)

pub over-requires : goal.over-requires
over-requires c = let p = first-no c.args.log.now c.args.m c.say-s.ensures c.in-No.is in
    rw c.taken.ensures (fits_next c.args.log.now c.args.main.now c.args.m c.requires p.some_left, omega arith)

pub taken-requires-in-Yes : goal.taken-requires-in-Yes
taken-requires-in-Yes c = (c.requires.asks, (first-yes c.args.log.now c.args.m c.say-s.ensures c.in-Yes.is).some_left)

pub over-requires-in-Yes : goal.over-requires-in-Yes
over-requires-in-Yes c = let p = first-yes c.args.log.now c.args.m c.say-s.ensures c.in-Yes.is in
    rw c.taken-in-Yes.ensures (fits_next c.args.log.now c.args.main.now c.args.m c.requires p.some_left, omega arith)

pub returns-in_default : goal.returns-in_default
returns-in_default c = let long : leb (length (bytes_in c.args.log.now (element_at c.args.main.now (c.args.m.main - 2)))) 4 ≡ false =
    rw c.get-e.ensures at c.in_default.ensures in
    aborts c.in-Ok.ensures.0 c.requires c.with_status.ensures (add-long c.args.log.now c.args.main.now c.args.m c.in-Ok.ensures.1 long)

pub returns-in-Neither : goal.returns-in-Neither
returns-in-Neither c = let number : IsRead (bytes_in c.args.log.now (element_at c.args.main.now (c.args.m.main - 2))) c.in-Some.x =
    rw c.get-e.ensures at c.in-Some.ensures in
    tells-stuck (added c.args.log.now c.args.main.now c.args.m) c.in-Ok.ensures.0 c.requires
    (add-tells c.args.log.now c.args.main.now c.args.m c.in-Ok.ensures.1 number.short) c.say-s.ensures c.in-Neither.is
    c.with_status-in-Neither.ensures

pub returns-in-No : goal.returns-in-No
returns-in-No c = let number : IsRead (bytes_in c.args.log.now (element_at c.args.main.now (c.args.m.main - 2))) c.in-Some.x =
    rw c.get-e.ensures at c.in-Some.ensures in
    tells-over (added c.args.log.now c.args.main.now c.args.m) c.in-Ok.ensures.0 c.requires
    (add-tells c.args.log.now c.args.main.now c.args.m c.in-Ok.ensures.1 number.short) false
    (first-no c.args.log.now c.args.m c.say-s.ensures c.in-No.is) (rw c.taken.ensures at c.over.ensures)
    (c.one_more.ensures c.args.log.now ∙ ap (λ (i : ℤ). write (one_more false i)) number.is) (λ a. refl)

pub returns-in-Yes : goal.returns-in-Yes
returns-in-Yes c = let number : IsRead (bytes_in c.args.log.now (element_at c.args.main.now (c.args.m.main - 2))) c.in-Some.x =
    rw c.get-e.ensures at c.in-Some.ensures in
    tells-over (added c.args.log.now c.args.main.now c.args.m) c.in-Ok.ensures.0 c.requires
    (add-tells c.args.log.now c.args.main.now c.args.m c.in-Ok.ensures.1 number.short) true
    (first-yes c.args.log.now c.args.m c.say-s.ensures c.in-Yes.is) (rw c.taken-in-Yes.ensures at c.over-in-Yes.ensures)
    (c.one_more-in-Yes.ensures c.args.log.now ∙ ap (λ (i : ℤ). write (one_more true i)) number.is) (λ a. refl)
