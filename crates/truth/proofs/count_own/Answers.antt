use Rattle.variables.specs.Gathering.{row_of}
use Rattle.truth.proofs.Counting.{own-begin, own-more, own-done}
use native.Mathlib.Omega.{arith}
use Rattle.truth.proofs.count_own.Goals as goal

pub loop-i-init : goal.loop-i-init
loop-i-init c = own-begin c.args.c.planes c.args.own.list (row_of c.args.t) c.args.words c.args.own.n c.requires.0

pub loop-i-preserved : goal.loop-i-preserved
loop-i-preserved c = own-more c.loop-i.invariant (omega (arith, c.requires.1.1.0, c.requires.1.1.1)) c.loop-i-test.true c.word_for-word.ensures c.one_more-all.ensures

pub returns : goal.returns
returns c = record {
  planes_len = c.loop-i.invariant.long;
  by_index = own-done c.loop-i.invariant c.loop-i-test.false;
}
