-- `words::u16_at` meets its contract: where both bytes are there, they write the number. Assumes nothing.
use mathlib.Core.Path.{sym, ◌∙◌}
use Prim.Native.Nat.{◌+◌}
use native.Mathlib.Omega.{arith}
use Rattle.words.proofs.Bytes.{room, found-2, missing}
use Rattle.words.proofs.u16_at.Goals as goal

pub bounds-s-at : goal.bounds-s-at
bounds-s-at c = omega (arith, room 2 c.args.s.now c.args.at (sym c.has_bytes.ensures ∙ c.if-has_bytes.true))

pub overflow_cast-b0 : goal.overflow_cast-b0
overflow_cast-b0 c = omega (arith, c.shared_slice_known-then-has_bytes-1.given c.args.at)

pub overflow_add-b1 : goal.overflow_add-b1
overflow_add-b1 c = omega (arith, room 2 c.args.s.now c.args.at (sym c.has_bytes.ensures ∙ c.if-has_bytes.true))

pub bounds-s-at-then-has_bytes : goal.bounds-s-at-then-has_bytes
bounds-s-at-then-has_bytes c = omega (arith, room 2 c.args.s.now c.args.at (sym c.has_bytes.ensures ∙ c.if-has_bytes.true))

pub overflow_cast-b1 : goal.overflow_cast-b1
overflow_cast-b1 c = omega (arith, c.shared_slice_known-then-has_bytes-2-1.given (c.args.at + 1))

pub overflow_mul-result : goal.overflow_mul-result
overflow_mul-result c = omega (arith, c.shared_slice_known-then-has_bytes-2-1.given c.args.at, c.shared_slice_known-then-has_bytes-2-1.given (c.args.at + 1))

pub overflow_add-result : goal.overflow_add-result
overflow_add-result c = omega (arith, c.shared_slice_known-then-has_bytes-2-1.given c.args.at, c.shared_slice_known-then-has_bytes-2-1.given (c.args.at + 1))

pub returns-then-has_bytes : goal.returns-then-has_bytes
returns-then-has_bytes c = sym (found-2 c.args.s.now c.args.at (sym c.has_bytes.ensures ∙ c.if-has_bytes.true))

pub returns : goal.returns
returns c = sym (missing 2 c.args.s.now c.args.at (sym c.has_bytes.ensures ∙ c.if-has_bytes.false))
