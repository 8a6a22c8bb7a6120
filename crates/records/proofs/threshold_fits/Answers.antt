-- `records::threshold_fits` meets its contract: k and n are tested before the length. Assumes nothing.
use mathlib.Core.Path.{sym}
use native.Mathlib.Omega.{arith}
use Rattle.records.proofs.Forms.{no-k, k-over-n, n-over-most, by_length, few_bytes}
use Rattle.records.proofs.threshold_fits.Goals as goal

pub returns-then-k-lt1 : goal.returns-then-k-lt1
returns-then-k-lt1 c = sym (no-k c.args.width c.args.bytes.now (omega arith))

pub returns-then-n-k : goal.returns-then-n-k
returns-then-n-k c = sym (k-over-n c.args.width c.args.bytes.now (omega arith) (omega arith))

pub returns-then-n-gt-MAX_COUNT : goal.returns-then-n-gt-MAX_COUNT
returns-then-n-gt-MAX_COUNT c = sym (n-over-most c.args.width c.args.bytes.now (omega arith) (omega arith) (omega arith))

pub overflow_mul-result : goal.overflow_mul-result
overflow_mul-result c = omega (arith, few_bytes c.args.width c.u16_or_zero-n.result c.requires (omega arith))

pub overflow_add-result : goal.overflow_add-result
overflow_add-result c = omega (arith, few_bytes c.args.width c.u16_or_zero-n.result c.requires (omega arith))

pub returns : goal.returns
returns c = rw c.u16_or_zero-n.ensures (sym (by_length c.args.width c.args.bytes.now (omega arith) (omega arith) (omega arith)))
