use Rattle.variables.proofs.OwnCodes.{own-low, own-one, own-high, few-keys, own_keys}
use Rattle.variables.proofs.own_of.Goals as goal

pub returns-then-kind-lt34 : goal.returns-then-kind-lt34
returns-then-kind-lt34 c = own-low c.requires c.fragment_parts-parts.ensures c.kind_of-kind.ensures c.if-kind-lt34.true c.nothing.ensures

pub returns-then-kind-lt42 : goal.returns-then-kind-lt42
returns-then-kind-lt42 c = own-one c.requires c.fragment_parts-parts.ensures c.kind_of-kind.ensures c.if-kind-lt34.false c.if-kind-lt42.true c.one_of.ensures

pub returns-then-kind-lt57 : goal.returns-then-kind-lt57
returns-then-kind-lt57 c = own-high c.requires c.fragment_parts-parts.ensures c.kind_of-kind.ensures c.if-kind-lt42.false c.if-kind-lt57.true c.nothing-then-kind-lt57.ensures

pub keys_of-list-requires : goal.keys_of-list-requires
keys_of-list-requires c = few-keys c.requires c.fragment_parts-parts.ensures c.kind_of-kind.ensures c.if-kind-lt57.false

pub returns : goal.returns
returns c = own_keys c.requires c.fragment_parts-parts.ensures c.kind_of-kind.ensures c.if-kind-lt57.false c.keys_of-list.ensures.result_len c.keys_of-list.ensures.result_value
