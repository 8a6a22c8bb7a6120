-- `trees::check_record` meets its contract: the children are taken, the rule of the kind answers, and the slot is added. Assumes nothing.
use native.Mathlib.Omega.{arith}
use borrow.Author.Tests.{not-true, not-false}
use Rattle.records.proofs.Arities.{found, not_found, few-children, rule-needs}
use Rattle.trees.proofs.StepLaws.{Took, stepped-unfit, stepped-untaken, stepped-ill, stepped-placed}
use Rattle.trees.proofs.check_record.Goals as goal

pub returns-then-not-parts : goal.returns-then-not-parts
returns-then-not-parts c = stepped-unfit c.args.context c.args.bytes.now c.args.work.now c.args.read
    (not_found c.args.bytes.now c.fragment_parts-parts.ensures (not-true _ c.if-not-parts.true))

pub take_children-requires : goal.take_children-requires
take_children-requires c = (omega arith, few-children (found c.args.bytes.now c.fragment_parts-parts.ensures (not-false _ c.if-not-parts.false) c.kind_of-kind.ensures c.arity-n.ensures))

pub returns-in_default : goal.returns-in_default
returns-in_default c = let took : Took c.args.bytes.now c.args.work.now c.take_children.new.work c.args.read c.fragment_parts-parts.result c.kind_of-kind.result c.arity-n.result c.take_children.result
    = record { found = found c.args.bytes.now c.fragment_parts-parts.ensures (not-false _ c.if-not-parts.false) c.kind_of-kind.ensures c.arity-n.ensures; took = c.take_children.ensures.read_value; same = c.take_children.ensures.work_len_unchanged } in
    stepped-untaken c.args.context took c.in_default.is

pub rule_of-requires : goal.rule_of-requires
rule_of-requires c = rule-needs (found c.args.bytes.now c.fragment_parts-parts.ensures (not-false _ c.if-not-parts.false) c.kind_of-kind.ensures c.arity-n.ensures)

pub returns-in_default-rule_of : goal.returns-in_default-rule_of
returns-in_default-rule_of c = let took : Took c.args.bytes.now c.args.work.now c.take_children.new.work c.args.read c.fragment_parts-parts.result c.kind_of-kind.result c.arity-n.result c.take_children.result
    = record { found = found c.args.bytes.now c.fragment_parts-parts.ensures (not-false _ c.if-not-parts.false) c.kind_of-kind.ensures c.arity-n.ensures; took = c.take_children.ensures.read_value; same = c.take_children.ensures.work_len_unchanged } in
    stepped-ill c.args.context took c.in-Some.is c.types_of-types.ensures c.rule_of.ensures c.in_default-rule_of.is

pub add_record-requires : goal.add_record-requires
add_record-requires c = (omega (arith, c.take_children.ensures.work_len_unchanged, c.requires), few-children (found c.args.bytes.now c.fragment_parts-parts.ensures (not-false _ c.if-not-parts.false) c.kind_of-kind.ensures c.arity-n.ensures))

pub returns : goal.returns
returns c = let took : Took c.args.bytes.now c.args.work.now c.take_children.new.work c.args.read c.fragment_parts-parts.result c.kind_of-kind.result c.arity-n.result c.take_children.result
    = record { found = found c.args.bytes.now c.fragment_parts-parts.ensures (not-false _ c.if-not-parts.false) c.kind_of-kind.ensures c.arity-n.ensures; took = c.take_children.ensures.read_value; same = c.take_children.ensures.work_len_unchanged } in
    stepped-placed c.args.context took c.in-Some.is c.types_of-types.ensures c.rule_of.ensures c.in-Ok.is c.add_record.ensures
