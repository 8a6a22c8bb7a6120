use mathlib.Core.Path.{◌≡◌}
use Rattle.tree_figures.proofs.Loading.{load-more}
use native.Mathlib.Omega.{arith}
use Rattle.tree_figures.proofs.load.Goals as goal

pub figures_at-requires : goal.figures_at-requires
figures_at-requires c = (c.requires.1.1 c.loop-j.j c.loop-j-test.true, c.requires.1.0)

pub loop-j-preserved : goal.loop-j-preserved
loop-j-preserved c = load-more c.loop-j.invariant (omega (arith, c.requires.0, c.loop-j-test.true)) c.figures_at.ensures

pub returns : goal.returns
returns c = let last : c.loop-j.j ≡ c.args.n = omega arith in rw (← last) c.loop-j.invariant
