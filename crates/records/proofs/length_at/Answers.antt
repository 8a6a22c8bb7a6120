-- `records::length_at` meets its contract: what is left at a place is compared where it cannot wrap. Assumes nothing.
use Rattle.std.specs.Prelude.{Some}
use mathlib.Core.Path.{sym, ap, ◌∙◌}
use native.Mathlib.Omega.{arith}
use Rattle.records.proofs.Numbers.{u16-room}
use Rattle.records.proofs.Laws.{length-too-small, length-too-large, length-fits}
use Rattle.records.proofs.length_at.Goals as goal

pub returns-then-whole-lt4 : goal.returns-then-whole-lt4
returns-then-whole-lt4 c = sym (length-too-small c.args.s.now c.args.at (omega arith))

pub overflow_sub-s : goal.overflow_sub-s
overflow_sub-s c = omega (arith, u16-room c.args.s.now c.args.at (omega arith))

pub returns-then-s-at : goal.returns-then-s-at
returns-then-s-at c = sym (length-too-large c.args.s.now c.args.at (omega arith) (omega arith))

pub returns : goal.returns
returns c = ap Some c.u16_or_zero-whole.ensures
    ∙ sym (length-fits c.args.s.now c.args.at (omega arith) (omega arith))
