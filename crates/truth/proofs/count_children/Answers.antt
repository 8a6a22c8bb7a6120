use Rattle.std.proofs.Common.{rules}
use mathlib.Core.Path.{◌≡◌}
use lib.ListN.{length}
use Rattle.truth.proofs.Counting.{children-begin, children-more, children-done}
use native.Mathlib.Omega.{arith}
use Rattle.truth.proofs.count_children.Goals as goal

pub word_at-word-requires : goal.word_at-word-requires
word_at-word-requires c = c.requires.1.1 c.loop-i.i c.loop-i-test.true

pub returns : goal.returns
returns c = record {
  planes_len = c.loop-i.invariant.long;
  by_index = children-done c.loop-i.invariant c.loop-i-test.false;
}

pub loop-i-init : goal.loop-i-init
loop-i-init c = children-begin c.args.c.planes c.args.work.now c.args.numbers c.args.n c.requires.0

pub loop-i-preserved : goal.loop-i-preserved
loop-i-preserved c = let len : length c.args.numbers ≡ 16 = search rules in children-more c.loop-i.invariant (omega (arith, len, c.requires.1.0)) c.loop-i-test.true c.word_at-word.ensures c.one_more-all.ensures
