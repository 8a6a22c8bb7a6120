-- `spend_elements::equal` meets its contract. Assumes nothing.
use mathlib.Core.Path.{sym, ◌∙◌}
use Rattle.spend_elements.proofs.Writing.{equal-sizes, equal-zeros, equal-signs}
use Rattle.spend_elements.proofs.equal.Goals as goal

pub returns-then-m-n : goal.returns-then-m-n
returns-then-m-n c = sym (equal-sizes c.args.a.negative c.args.b.negative c.args.a.size c.args.b.size c.if-m-n.true)

pub returns-then-m-eq0 : goal.returns-then-m-eq0
returns-then-m-eq0 c = sym (equal-zeros c.args.a.negative c.args.b.negative c.args.a.size c.args.b.size c.if-m-eq0.true (sym c.if-m-n.false ∙ c.if-m-eq0.true))

pub returns : goal.returns
returns c = sym (equal-signs c.args.a.negative c.args.b.negative c.args.a.size c.args.b.size c.if-m-n.false c.if-m-eq0.false)
