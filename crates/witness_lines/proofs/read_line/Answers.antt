-- `witness_lines::read_line` meets its contract: the word before the first space is the context, what follows it the path. Assumes nothing.
use mathlib.Core.Path.{sym}
use Rattle.witness_lines.proofs.Lines.{no-context, no-path, an-input}
use Rattle.witness_lines.proofs.read_line.Goals as goal

pub returns-in_err-context : goal.returns-in_err-context
returns-in_err-context c =
    rw c.from_residual.ensures (no-context c.args.line.now c.find-space.result c.find-space.ensures.place (sym c.in_err-context.ensures))

pub returns-then-path-line : goal.returns-then-path-line
returns-then-path-line c = an-input c.args.line.now c.find-space.result c.find-space.ensures.place (sym c.in_ok-context.ensures) c.if-path-line.true

pub returns : goal.returns
returns c = no-path c.args.line.now c.find-space.result c.find-space.ensures.place (sym c.in_ok-context.ensures) c.if-path-line.false
