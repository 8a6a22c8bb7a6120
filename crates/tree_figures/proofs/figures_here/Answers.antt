use Rattle.tree_figures.proofs.Filling.{few-loaded, few-counted, inside, ready, figures-are, figures-make}
use native.Mathlib.Omega.{arith}
use Rattle.tree_figures.proofs.figures_here.Goals as goal

pub load-children-requires : goal.load-children-requires
load-children-requires c = (few-loaded c.requires c.fragment_parts-parts.ensures c.kind_of-kind.ensures c.arity-n.ensures, (c.requires.room, inside c.requires c.fragment_parts-parts.ensures c.kind_of-kind.ensures c.arity-n.ensures))

pub overflow_cast-count : goal.overflow_cast-count
overflow_cast-count c = omega (arith, few-counted c.requires c.fragment_parts-parts.ensures c.kind_of-kind.ensures c.arity-n.ensures)

pub figures_of-requires : goal.figures_of-requires
figures_of-requires c = (c.args.i, ready c.requires c.fragment_parts-parts.ensures c.kind_of-kind.ensures c.arity-n.ensures c.load-children.ensures)

pub returns : goal.returns
returns c = record {
  value = figures-are c.requires c.fragment_parts-parts.ensures c.kind_of-kind.ensures c.arity-n.ensures c.load-children.ensures c.args.context c.figures_of.ensures;
  candidate = figures-make c.requires c.fragment_parts-parts.ensures c.kind_of-kind.ensures c.arity-n.ensures c.load-children.ensures c.args.context c.figures_of.ensures;
}
