use Rattle.tree_figures.proofs.Loading.{part_at, part-long}
use native.Mathlib.Omega.{arith}
use Rattle.tree_figures.proofs.figures_at.Goals as goal

pub figures_in-requires : goal.figures_in-requires
figures_in-requires c = part-long c.args.work.now c.args.i (omega (arith, c.requires.0, c.requires.1))

pub returns : goal.returns
returns c = part_at c.args.work.now c.args.i c.figures_in.ensures
