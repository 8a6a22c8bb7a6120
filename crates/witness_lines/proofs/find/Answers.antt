-- `witness_lines::find` meets its contract: a byte further, or here, or the text ends. Assumes nothing.
use native.Mathlib.Omega.{arith}
use Rattle.witness_lines.proofs.Lines.{index_here, index_later, index_end}
use Rattle.witness_lines.proofs.find.Goals as goal

pub returns-then-text-at-clause-place : goal.returns-then-text-at-clause-place
returns-then-text-at-clause-place c = omega (arith, c.loop-at.invariant, index_here c.args.text.now c.loop-at.at c.args.sign c.loop-at-test.true c.if-text-at.true)

pub loop-at-preserved : goal.loop-at-preserved
loop-at-preserved c =
    omega (arith, c.loop-at.invariant, index_later c.args.text.now c.loop-at.at c.args.sign c.loop-at-test.true c.if-text-at.false)

pub returns-clause-place : goal.returns-clause-place
returns-clause-place c = omega (arith, c.loop-at.invariant, index_end c.args.text.now c.loop-at.at c.args.sign c.loop-at-test.false)
