-- `output::put_number` meets its contract: eight bytes for a key, four for a hash or a lock. Assumes nothing.
use native.Mathlib.Omega.{arith}
use mathlib.Core.Path.{sym, ap, ◌∙◌}
use lib.Seq.{sets}
use Rattle.words.specs.Bytes.{bytes_of}
use Rattle.output.proofs.Lengths.{width-eight, width_four}
use Rattle.output.proofs.put_number.Goals as goal

pub put_8-requires : goal.put_8-requires
put_8-requires c = omega (arith, width-eight c.args.kind c.if-kind-le35.true, c.requires)

pub returns-then-kind-le35 : goal.returns-then-kind-le35
returns-then-kind-le35 c = c.put_8.ensures ∙ ap (λ w. sets c.args.out.now c.args.at (bytes_of w c.args.v)) (sym (width-eight c.args.kind c.if-kind-le35.true))

pub put_4-requires : goal.put_4-requires
put_4-requires c = omega (arith, width_four c.args.kind c.if-kind-le35.false, c.requires)

pub returns : goal.returns
returns c = c.put_4.ensures ∙ ap (λ w. sets c.args.out.now c.args.at (bytes_of w c.args.v)) (sym (width_four c.args.kind c.if-kind-le35.false))
