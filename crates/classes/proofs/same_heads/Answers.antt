-- `classes::same_heads` meets its contract. Assumes nothing.
use mathlib.Core.Path.{ap}
use Rattle.policies.specs.declared.Head.{Head}
use Rattle.classes.proofs.Equal.{decides-yes, decides-no, head-same}
use Rattle.classes.proofs.same_heads.Goals as goal

pub returns-then-a-b : goal.returns-then-a-b
returns-then-a-b c = decides-no (λ e. c.if-a-b.true (ap (λ (h : Head). h.kind) e))

pub returns-then-a-b-2 : goal.returns-then-a-b-2
returns-then-a-b-2 c = decides-no (λ e. c.if-a-b-2.true (ap (λ (h : Head). h.number) e))

pub returns-then-a-b-3 : goal.returns-then-a-b-3
returns-then-a-b-3 c = decides-no (λ e. c.if-a-b-3.true (ap (λ (h : Head). h.k) e))

pub returns-then-a-b-4 : goal.returns-then-a-b-4
returns-then-a-b-4 c = decides-no (λ e. c.if-a-b-4.true (ap (λ (h : Head). h.count) e))

pub returns-then-a-b-5 : goal.returns-then-a-b-5
returns-then-a-b-5 c = decides-no (λ e. c.if-a-b-5.true (ap (λ (h : Head). h.left_weight) e))

pub returns-then-a-b-6 : goal.returns-then-a-b-6
returns-then-a-b-6 c = decides-no (λ e. c.if-a-b-6.true (ap (λ (h : Head). h.right_weight) e))

pub returns : goal.returns
returns c = let args =
    c.args in
    decides-yes (head-same args.a args.b c.if-a-b.false c.if-a-b-2.false c.if-a-b-3.false c.if-a-b-4.false c.if-a-b-5.false c.if-a-b-6.false)
