-- `policies::read_whole` meets its contract. Assumes nothing.
use borrow.Author.Tests.{not-true, not-false}
use lib.ListN.{length}
use Rattle.policies.proofs.Whole.{whole-unfit, whole_take, whole-missing, whole-zero, whole-next}
use Rattle.policies.proofs.read_whole.Goals as goal

pub returns-then-not-parts : goal.returns-then-not-parts
returns-then-not-parts c = whole-unfit c.args.pol.now c.args.whole.now c.args.i (length c.args.whole.now) c.requires.0 c.requires.1 c.policy_parts-parts.ensures _
    (not-true _ c.if-not-parts.true)

pub take_children-requires : goal.take_children-requires
take_children-requires c = whole_take c.args.pol.now c.args.whole.now c.args.i (length c.args.whole.now) c.requires.0 c.requires.1 c.policy_parts-parts.ensures
    c.kind_of-kind.ensures c.put_row.ensures (not-false _ c.if-not-parts.false)

pub returns-then-not-take_children : goal.returns-then-not-take_children
returns-then-not-take_children c = whole-missing c.args.pol.now c.args.whole.now c.args.i (length c.args.whole.now) c.requires.0 c.requires.1 c.policy_parts-parts.ensures
    c.kind_of-kind.ensures c.put_row.ensures
    (not-false _ c.if-not-parts.false) _ c.take_children.ensures c.if-not-take_children.true

pub returns-then-weighs_nothing : goal.returns-then-weighs_nothing
returns-then-weighs_nothing c = let args = c.args in
    let pre = c.requires in
    whole-zero args.pol.now args.whole.now args.i (length args.whole.now) pre.0 pre.1 c.policy_parts-parts.ensures
    c.kind_of-kind.ensures c.put_row.ensures
    (not-false _ c.if-not-parts.false) _ c.take_children.ensures c.if-not-take_children.false c.weighs_nothing.ensures c.if-weighs_nothing.true

pub returns : goal.returns
returns c = let args = c.args in
    let pre = c.requires in
    whole-next args.pol.now args.whole.now args.i (length args.whole.now) pre.0 pre.1 c.policy_parts-parts.ensures
    c.kind_of-kind.ensures c.put_row.ensures
    (not-false _ c.if-not-parts.false) _ c.take_children.ensures c.if-not-take_children.false c.weighs_nothing.ensures c.if-weighs_nothing.false
