-- `oracle_lines::cost` meets its contract: a lone sign by what it is, and else the bits. Assumes nothing.
use mathlib.Core.Path.{ap, ◌∙◌}
use Rattle.oracle_lines.specs.Reads.{cost_told}
use Rattle.oracle_lines.proofs.Cases.{never-word, no-cost, bits-told, bits-missing}
use Rattle.oracle_lines.proofs.cost.Goals as goal

pub returns-then-word-eq-DASH : goal.returns-then-word-eq-DASH
returns-then-word-eq-DASH c = never-word c.args.word.now c.if-word-eq1.true c.if-word-eq-DASH.true

pub returns-then-word-eq1 : goal.returns-then-word-eq1
returns-then-word-eq1 c = no-cost c.args.word.now c.if-word-eq1.true c.if-word-eq-DASH.false

pub returns-in_err-bits : goal.returns-in_err-bits
returns-in_err-bits c = ap cost_told c.from_residual.ensures ∙ bits-missing c.args.word.now c.if-word-eq1.false c.in_err-bits.ensures

pub returns : goal.returns
returns c = bits-told c.args.word.now c.if-word-eq1.false c.in_ok-bits.ensures
