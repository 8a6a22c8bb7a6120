-- `trees::rule_of` meets its contract: a range of kinds at a time, over as many children as the kind has. Assumes nothing.
use Rattle.std.proofs.Common.{rules}
use mathlib.Core.Path.{◌≡◌}
use native.Mathlib.Omega.{arith}
use lib.ListN.{length}
use Rattle.records.proofs.Arities.{past}
use Rattle.trees.proofs.ByKind.{rule-one, rule-three, rule-all, rule-multi, rule-multi-a}
use Rattle.trees.proofs.rule_of.Goals as goal

pub returns-in_default : goal.returns-in_default
returns-in_default c = absurd (omega arith)

pub returns-in_default-2 : goal.returns-in_default-2
returns-in_default-2 c = let l = past (past (past (past c.in_default.if-kind-lt55-own.false c.in_default.in_default-own.rest.0.0.0.1) c.in_default.in_default-own.rest.0.0.1) c.in_default.in_default-own.rest.0.1) c.in_default.in_default-own.rest.1 in
    absurd (omega (arith, l))

pub returns-in-55 : goal.returns-in-55
returns-in-55 c = let len : length c.args.types ≡ 16 = search rules in
    rule-three c.args.kind c.args.count c.args.k c.args.context c.args.types _ len c.in-55.is c.and_or.ensures

pub returns-in-56 : goal.returns-in-56
returns-in-56 c = rule-all c.args.kind c.args.count c.args.k c.args.context c.args.types c.in-56.is c.requires.2 c.threshold.ensures

pub returns-in-57 : goal.returns-in-57
returns-in-57 c = rule-multi c.args.kind c.args.count c.args.k c.args.context c.args.types c.in-57.is c.multi_type.ensures

pub returns-in-58 : goal.returns-in-58
returns-in-58 c = rule-multi-a c.args.kind c.args.count c.args.k c.args.context c.args.types c.in-58.is c.multi_a_type.ensures

pub returns-in-42-to-48 : goal.returns-in-42-to-48
returns-in-42-to-48 c = let len : length c.args.types ≡ 16 = search rules in
    rule-one c.args.kind c.args.count c.args.k c.args.context c.args.types _ len (omega arith) (omega arith)
    (c.cast_type.ensures c.args.k)
