-- `spend_elements::written` meets its contract. Assumes nothing.
use native.Mathlib.Omega.{arith}
use mathlib.Core.Path.{sym, ◌∙◌, ap}
use Prim.Native.Nat.{ℕ}
use Rattle.script_machine.specs.Numbers.{write}
use Rattle.spend_elements.specs.Signed.{int_of}
use Rattle.spend_elements.proofs.Writing.{writes-0, writes-1, writes-2, writes-3, writes-4, writes-5, above_zero}
use Rattle.spend_elements.proofs.written.Goals as goal

pub returns-then-size-eq0 : goal.returns-then-size-eq0
returns-then-size-eq0 c log = c.held_in.ensures log ∙ writes-0 c.args.negative ∙ ap (λ (n : ℕ). write (int_of c.args.negative n)) (sym c.if-size-eq0.true)

pub returns-then-size-lt128 : goal.returns-then-size-lt128
returns-then-size-lt128 c log = c.held_in-then-size-lt128.ensures log ∙ writes-1 c.args.negative c.args.size (above_zero _ c.if-size-eq0.false) c.if-size-lt128.true

pub returns-then-size-lt32768 : goal.returns-then-size-lt32768
returns-then-size-lt32768 c log = c.held_in-then-size-lt32768.ensures log ∙ writes-2 c.args.negative c.args.size c.if-size-lt128.false c.if-size-lt32768.true

pub returns-then-size-lt8388608 : goal.returns-then-size-lt8388608
returns-then-size-lt8388608 c log = c.held_in-then-size-lt8388608.ensures log ∙ writes-3 c.args.negative c.args.size c.if-size-lt32768.false c.if-size-lt8388608.true

pub returns-then-size-lt2147483648 : goal.returns-then-size-lt2147483648
returns-then-size-lt2147483648 c log = c.held_in-then-size-lt2147483648.ensures log ∙ writes-4 c.args.negative c.args.size c.if-size-lt8388608.false c.if-size-lt2147483648.true

pub returns : goal.returns
returns c log = c.held_in-2.ensures log ∙ writes-5 c.args.negative c.args.size c.if-size-lt2147483648.false (omega arith)
