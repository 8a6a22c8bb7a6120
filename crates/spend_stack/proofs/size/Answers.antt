-- `spend_stack::size` meets its contract. Assumes nothing.
use Prim.Native.Nat.{ℕ}
use mathlib.Core.Path.{◌∙◌, ap}
use lib.IntN.{pos}
use lib.ListN.{length}
use Rattle.spend_elements.specs.declared.Element.{Element}
use Rattle.spend_elements.specs.Elements.{bytes_in}
use Rattle.script_machine.specs.Numbers.{write}
use Rattle.script_machine.specs.Words.{SIZE}
use Rattle.spend_stack.proofs.Laws.{not-ready, leaves}
use Rattle.spend_stack.proofs.Steps.{without-one, size_none, size-on, few_bytes}
use Rattle.spend_stack.proofs.size.Goals as goal

pub returns-in-Err : goal.returns-in-Err
returns-in-Err c = not-ready 1 c.requires c.in-Err.ensures (without-one c.args.log.now c.args.main.now c.args.m SIZE size_none)

pub written-w-requires : goal.written-w-requires
written-w-requires c = rw c.length_of.ensures (few_bytes c.args.log.now c.get-e.result)

pub returns-in-Ok : goal.returns-in-Ok
returns-in-Ok c = leaves c.in-Ok.ensures.0 c.requires c.over.ensures
    (c.written-w.ensures c.args.log.now ∙ ap (λ (n : ℕ). write (pos n)) (c.length_of.ensures ∙ ap (λ (e : Element). length (bytes_in c.args.log.now e)) c.get-e.ensures))
    (size-on c.args.log.now c.args.main.now c.args.m c.in-Ok.ensures.1)
