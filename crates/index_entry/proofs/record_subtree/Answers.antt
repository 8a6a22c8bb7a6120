-- `index_entry::record_subtree` meets its contract. Assumes nothing.
use Rattle.index_entry.proofs.Records.{few-loaded, needed, loaded-inside, ill-ruled, tall-ruled, well-ruled}
use native.Mathlib.Omega.{arith}
use mathlib.Core.Path.{refl}
use Rattle.index_entry.proofs.record_subtree.Goals as goal

pub load-children-requires : goal.load-children-requires
load-children-requires c = (
  c.requires.room,
  few-loaded c.requires c.fragment_parts-parts.ensures c.kind_of-kind.ensures c.arity-n.ensures,
  loaded-inside c.requires c.fragment_parts-parts.ensures c.kind_of-kind.ensures c.arity-n.ensures,
)

pub rule_of-requires : goal.rule_of-requires
rule_of-requires c = needed c.requires c.fragment_parts-parts.ensures c.kind_of-kind.ensures c.arity-n.ensures

pub returns-in_default : goal.returns-in_default
returns-in_default c = record {
  ruled = ill-ruled c.requires c.fragment_parts-parts.ensures c.kind_of-kind.ensures c.arity-n.ensures c.load-children.result c.load-children.ensures c.args.context c.types_of.ensures refl
      c.rule_of.result c.rule_of.ensures _ _ c.in_default.is;
  height_le_max_height = omega arith;
}

pub tallest-below-requires : goal.tallest-below-requires
tallest-below-requires c = few-loaded c.requires c.fragment_parts-parts.ensures c.kind_of-kind.ensures c.arity-n.ensures

pub returns-then-below-ge-MAX_HEIGHT : goal.returns-then-below-ge-MAX_HEIGHT
returns-then-below-ge-MAX_HEIGHT c = record {
  ruled = tall-ruled c.requires c.fragment_parts-parts.ensures c.kind_of-kind.ensures c.arity-n.ensures c.load-children.result c.load-children.ensures c.args.context c.types_of.ensures
      refl c.rule_of.result c.rule_of.ensures _ c.tallest-below.ensures c.if-below-ge-MAX_HEIGHT.true;
  height_le_max_height = omega arith;
}

pub returns : goal.returns
returns c = record {
  ruled = well-ruled c.requires c.fragment_parts-parts.ensures c.kind_of-kind.ensures c.arity-n.ensures c.load-children.result c.load-children.ensures c.args.context c.types_of.ensures
      refl c.rule_of.result c.rule_of.ensures c.in-Ok.is c.tallest-below.ensures;
  height_le_max_height = omega (arith, c.if-below-ge-MAX_HEIGHT.false);
}
