-- `script_leaves::width_of` meets its contract, a width at a time. Assumes nothing.
use native.Mathlib.Omega.{arith}
use Rattle.script_leaves.proofs.Pushes.{number-1, number-2, number-3, number-4, number-5}
use Rattle.script_leaves.proofs.width_of.Goals as goal

pub returns-then-n-lt128 : goal.returns-then-n-lt128
returns-then-n-lt128 c = number-1 c.args.n (omega arith) (omega arith)

pub returns-then-n-lt32768 : goal.returns-then-n-lt32768
returns-then-n-lt32768 c = number-2 c.args.n (omega arith) (omega arith)

pub returns-then-n-lt8388608 : goal.returns-then-n-lt8388608
returns-then-n-lt8388608 c = number-3 c.args.n (omega arith) (omega arith)

pub returns-then-n-lt2147483648 : goal.returns-then-n-lt2147483648
returns-then-n-lt2147483648 c = number-4 c.args.n (omega arith) (omega arith)

pub returns : goal.returns
returns c = number-5 c.args.n (omega arith) (omega arith)
