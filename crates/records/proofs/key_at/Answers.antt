-- `records::key_at` meets its contract: the keys stand one after the other from byte 8 on. Assumes nothing.
use native.Mathlib.Omega.{arith}
use mathlib.Core.Path.{ap, ◌∙◌}
use Prim.Native.Nat.{◌+◌, ◌*◌}
use Rattle.records.specs.Numbers.{number_at}
use Rattle.records.specs.Payloads.{width}
use Rattle.records.proofs.Widths.{width_few, few-places}
use Rattle.records.proofs.key_at.Goals as goal

pub overflow_mul-at : goal.overflow_mul-at
overflow_mul-at c = omega (arith, few-places c.width_of.result c.args.j (rw c.width_of.ensures (width_few c.args.bytes.now)) (omega arith))

pub overflow_add-at : goal.overflow_add-at
overflow_add-at c = omega (arith, few-places c.width_of.result c.args.j (rw c.width_of.ensures (width_few c.args.bytes.now)) (omega arith))

pub returns : goal.returns
returns c = c.number_at.ensures.value ∙ ap (λ w. number_at (width c.args.bytes.now) c.args.bytes.now (8 + w * c.args.j)) c.width_of.ensures
