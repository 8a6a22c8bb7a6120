-- `words::u64_at` meets its contract: eight bytes are two numbers of four. Assumes nothing.
use mathlib.Core.Path.{sym, ◌∙◌}
use native.Mathlib.Omega.{arith}
use Rattle.words.proofs.Bytes.{read-room, found-8, missing-low, missing-high}
use Rattle.words.proofs.u64_at.Goals as goal

pub overflow_add-at : goal.overflow_add-at
overflow_add-at c = omega (arith, read-room 4 c.args.s.now c.args.at (sym c.in_ok-low.ensures))

pub returns-in_err-low : goal.returns-in_err-low
returns-in_err-low c = c.from_residual.ensures ∙ sym (missing-low c.args.s.now c.args.at (sym c.in_err-low.ensures))

pub returns-in_err-high : goal.returns-in_err-high
returns-in_err-high c = c.from_residual-in_err-high.ensures ∙ sym (missing-high c.args.s.now c.args.at (sym c.in_err-high.ensures))

pub returns : goal.returns
returns c = sym (found-8 c.args.s.now c.args.at (sym c.in_ok-low.ensures) (sym c.in_ok-high.ensures))
