-- `spend_asks::is_dummy` meets its contract. Assumes nothing.
use Prim.Native.Nat.{ℕ}
use mathlib.Core.Path.{sym, ◌∙◌, ap}
use lib.Dec.{eqb}
use lib.ListN.{length}
use Rattle.spend_elements.specs.declared.Element.{Element}
use Rattle.spend_elements.specs.Elements.{bytes_in}
use Rattle.spend_asks.specs.Answers.{dummy_on}
use Rattle.spend_stack.proofs.Stacks.{none-on, one_on}
use Rattle.spend_asks.proofs.is_dummy.Goals as goal

pub returns-then-n-lt1 : goal.returns-then-n-lt1
returns-then-n-lt1 c = sym (ap dummy_on (none-on c.args.log.now c.args.main.now c.args.n c.if-n-lt1.true))

pub returns : goal.returns
returns c = ap (λ (n : ℕ). eqb n 0) (c.length_of.ensures ∙ ap (λ (e : Element). length (bytes_in c.args.log.now e)) c.get.ensures)
    ∙ sym (ap dummy_on (one_on c.args.log.now c.args.main.now c.args.n c.if-n-lt1.false))
