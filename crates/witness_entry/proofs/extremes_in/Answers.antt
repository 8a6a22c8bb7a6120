use native.Mathlib.Omega.{arith}
use Rattle.witness_rules.specs.Bounds.{none}
use Rattle.witness_entry.proofs.Memory.{not-zero, word-few}
use Rattle.witness_entry.proofs.extremes_in.Goals as goal

pub returns-then-word-eq0 : goal.returns-then-word-eq0
returns-then-word-eq0 c = record {
  value = rw c.if-word-eq0.true;
  below = none;
}

pub returns : goal.returns
returns c = record {
  value = not-zero c.args.word c.if-word-eq0.false;
  below = word-few c.args.word (omega (arith, c.ranges.word));
}
