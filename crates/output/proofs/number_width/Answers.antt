-- `output::number_width` meets its contract. Assumes nothing.
use mathlib.Core.Path.{sym}
use Rattle.output.proofs.Lengths.{width-eight, width_four}
use Rattle.output.proofs.number_width.Goals as goal

pub returns-then-kind-le35 : goal.returns-then-kind-le35
returns-then-kind-le35 c = sym (width-eight c.args.kind c.if-kind-le35.true)

pub returns : goal.returns
returns c = sym (width_four c.args.kind c.if-kind-le35.false)
