-- `counterexample::first_apart` meets its contract: the bits are compared one by one. Assumes nothing.
use Rattle.counterexample.proofs.Bits.{is-apart}
use Rattle.counterexample.proofs.first_apart.Goals as goal

pub returns-then-a-b : goal.returns-then-a-b
returns-then-a-b c = is-apart c.args.left c.args.right c.loop-bit.bit c.loop-bit-test.true c.bit_of-a.ensures c.bit_of-b.ensures c.if-a-b.true
