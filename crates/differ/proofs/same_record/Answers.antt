-- `differ::same_record` meets its contract: kind, number, k, count and keys are compared in turn. Assumes nothing.
use Rattle.differ.proofs.Sides.{other-kind, other-number, other-k, other-count, no_keys, by-keys}
use Rattle.differ.proofs.same_record.Goals as goal

pub returns-then-kind-other : goal.returns-then-kind-other
returns-then-kind-other c = other-kind c.args.left.now c.args.right.now c.kind_of-kind.ensures c.kind_of-other.ensures c.fragment_parts-x.ensures c.fragment_parts-y.ensures c.if-kind-other.true

pub returns-then-x-y : goal.returns-then-x-y
returns-then-x-y c = other-number c.args.left.now c.args.right.now c.kind_of-kind.ensures c.kind_of-other.ensures c.fragment_parts-x.ensures c.fragment_parts-y.ensures c.if-kind-other.false c.if-x-y.true

pub returns-then-x-y-2 : goal.returns-then-x-y-2
returns-then-x-y-2 c = other-k c.args.left.now c.args.right.now c.kind_of-kind.ensures c.kind_of-other.ensures c.fragment_parts-x.ensures c.fragment_parts-y.ensures c.if-kind-other.false c.if-x-y.false c.if-x-y-2.true

pub returns-then-x-y-3 : goal.returns-then-x-y-3
returns-then-x-y-3 c = other-count c.args.left.now c.args.right.now c.kind_of-kind.ensures c.kind_of-other.ensures c.fragment_parts-x.ensures c.fragment_parts-y.ensures c.if-kind-other.false c.if-x-y.false c.if-x-y-2.false c.if-x-y-3.true

pub returns-then-kind-lt57 : goal.returns-then-kind-lt57
returns-then-kind-lt57 c = no_keys c.args.left.now c.args.right.now c.kind_of-kind.ensures c.kind_of-other.ensures c.fragment_parts-x.ensures c.fragment_parts-y.ensures c.if-kind-other.false c.if-x-y.false c.if-x-y-2.false c.if-x-y-3.false c.if-kind-lt57.true

pub returns : goal.returns
returns c = by-keys c.args.left.now c.args.right.now c.kind_of-kind.ensures c.kind_of-other.ensures c.fragment_parts-x.ensures c.fragment_parts-y.ensures c.if-kind-other.false c.if-x-y.false c.if-x-y-2.false c.if-x-y-3.false c.if-kind-lt57.false c.count_of.ensures c.same_keys.ensures
