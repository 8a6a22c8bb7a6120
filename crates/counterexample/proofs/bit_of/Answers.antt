-- `counterexample::bit_of` meets its contract: each turn halves the word. Assumes nothing.
use native.Mathlib.Omega.{arith}
use Rattle.counterexample.proofs.Bits.{whole, halved, bit-told}
use Rattle.counterexample.proofs.bit_of.Goals as goal

pub loop-i-init : goal.loop-i-init
loop-i-init c = whole c.args.word

pub loop-i-preserved : goal.loop-i-preserved
loop-i-preserved c = halved c.args.word c.loop-i.i c.loop-i.invariant

pub returns : goal.returns
returns c = bit-told c.args.word c.args.j c.loop-i.i (omega arith) c.loop-i-test.false c.loop-i.invariant
