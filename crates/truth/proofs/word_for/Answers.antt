use Rattle.std.proofs.Common.{rules}
use mathlib.Core.Path.{◌≡◌}
use lib.ListN.{length}
use Rattle.truth.proofs.Counting.{word-hit, word_more, word_none}
use native.Mathlib.Omega.{arith}
use Rattle.truth.proofs.word_for.Goals as goal

pub returns-then-eq : goal.returns-then-eq
returns-then-eq c = let lenw : length c.args.words ≡ 12 = search rules in word-hit c.loop-i.invariant (omega (arith, c.requires.few, c.requires.long)) (omega (arith, lenw, c.requires.few)) c.loop-i-test.true c.eq.ensures c.if-eq.true

pub loop-i-preserved : goal.loop-i-preserved
loop-i-preserved c = let lenw : length c.args.words ≡ 12 = search rules in word_more c.loop-i.invariant (omega (arith, c.requires.few, c.requires.long)) (omega (arith, lenw, c.requires.few)) c.loop-i-test.true c.eq.ensures c.if-eq.false

pub returns : goal.returns
returns c = let lenw : length c.args.words ≡ 12 = search rules in word_none c.loop-i.invariant (omega (arith, c.requires.few, c.requires.long)) (omega (arith, lenw, c.requires.few)) c.loop-i-test.false
