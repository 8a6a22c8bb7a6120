use Rattle.std.proofs.Common.{rules}
use Prim.Native.Nat.{◌-◌}
use native.Mathlib.Omega.{arith}
use mathlib.Core.Path.{◌≡◌}
use lib.ListN.{length}
use Rattle.witness_rules.proofs.Counting.{from-none, from-fits, from_more, from_all}
use Rattle.witness_rules.proofs.threshold.Goals as goal

pub loop-i-init : goal.loop-i-init
loop-i-init c = let len : length c.args.children ≡ 16 = search rules in rw c.just.ensures (from-none c.args.n c.args.children c.requires.0 len)

pub count_child-row-requires : goal.count_child-row-requires
count_child-row-requires c = let len : length c.args.children ≡ 16 = search rules in (c.requires.1 (c.loop-i.i - 1) (omega (arith, len, c.loop-i.invariant.upto, c.requires.0)), from-fits c.args.n c.args.children c.requires.0 len c.requires.1 c.loop-i.invariant)

pub loop-i-preserved : goal.loop-i-preserved
loop-i-preserved c = let len : length c.args.children ≡ 16 = search rules in from_more c.args.n c.args.children c.requires.0 len c.loop-i-test.true c.loop-i.invariant c.count_child-row.ensures

pub returns : goal.returns
returns c = let len : length c.args.children ≡ 16 = search rules in let all = from_all c.args.n c.args.children c.requires.0 len c.loop-i-test.false c.loop-i.invariant in rw (c.count_at.ensures, c.count_at-2.ensures, all c.args.k, all 0)
