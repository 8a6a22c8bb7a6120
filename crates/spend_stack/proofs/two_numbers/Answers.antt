-- `spend_stack::two_numbers` meets its contract. Assumes nothing.
use Prim.Native.Nat.{◌-◌}
use mathlib.Core.Bool.{false}
use lib.Dec.{leb}
use lib.ListN.{length}
use mathlib.Core.Path.{◌≡◌, ◌∙◌, ap, refl}
use lib.IntN.{ℤ}
use Rattle.spend_elements.specs.Elements.{bytes_in}
use Rattle.spend_elements.specs.Signed.{value_in, IsRead}
use Rattle.spend_stack.specs.Machines.{element_at}
use Rattle.spend_stack.specs.Pieces.{combine, word_of}
use Rattle.script_machine.specs.Numbers.{read}
use Rattle.spend_stack.proofs.Laws.{not-ready, aborts, leaves}
use Rattle.spend_stack.proofs.Steps.{without-two, pair-none, pair_one, pair-on, pair-long}
use Rattle.spend_stack.proofs.two_numbers.Goals as goal

pub returns-in-Err : goal.returns-in-Err
returns-in-Err c = not-ready 2 c.requires c.in-Err.ensures (without-two c.args.log.now c.args.main.now c.args.m (word_of c.args.pair) (pair-none c.args.pair) (pair_one c.args.pair))

pub returns-in_default : goal.returns-in_default
returns-in_default c = let long : leb (length (bytes_in c.args.log.now (element_at c.args.main.now (c.args.m.main - 1)))) 4 ≡ false = rw c.get.ensures at c.in_default.ensures in
    aborts c.in-Ok.ensures.0 c.requires c.with_status.ensures (pair-long c.args.log.now c.args.main.now c.args.m c.args.pair c.in-Ok.ensures.1 (rw long refl))

pub returns-in_default-number_of : goal.returns-in_default-number_of
returns-in_default-number_of c = let first : IsRead (bytes_in c.args.log.now (element_at c.args.main.now (c.args.m.main - 1))) c.in-Some.x = rw c.get.ensures at c.in-Some.ensures in
    let long : leb (length (bytes_in c.args.log.now (element_at c.args.main.now (c.args.m.main - 2)))) 4 ≡ false = rw c.get-in-Ok.ensures at c.in_default-number_of.ensures in
    aborts c.in-Ok.ensures.0 c.requires c.with_status-in_default-number_of.ensures (pair-long c.args.log.now c.args.main.now c.args.m c.args.pair c.in-Ok.ensures.1 (rw (first.short, long) refl))

pub returns-in-Some-number_of : goal.returns-in-Some-number_of
returns-in-Some-number_of c = let first : IsRead (bytes_in c.args.log.now (element_at c.args.main.now (c.args.m.main - 1))) c.in-Some.x = rw c.get.ensures at c.in-Some.ensures in
    let second : IsRead (bytes_in c.args.log.now (element_at c.args.main.now (c.args.m.main - 2))) c.in-Some-number_of.y = rw c.get-in-Ok.ensures at c.in-Some-number_of.ensures in
    leaves c.in-Ok.ensures.0 c.requires c.over.ensures
    (c.combined.ensures c.args.log.now ∙ ap (λ (i : ℤ). combine c.args.pair i (value_in c.in-Some-number_of.y)) first.is
    ∙ ap (combine c.args.pair (read (bytes_in c.args.log.now (element_at c.args.main.now (c.args.m.main - 1))))) second.is)
    (pair-on c.args.log.now c.args.main.now c.args.m c.args.pair c.in-Ok.ensures.1 first.short second.short)
