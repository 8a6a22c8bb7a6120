-- `choice::exts_of` meets its contract: the first i are filled. Assumes nothing.
use mathlib.Core.Path.{refl, ◌∙◌, ap}
use native.Mathlib.Omega.{arith}
use lib.ListN.{length-set}
use Rattle.candidates.specs.declared.Candidate.{Candidate}
use Rattle.nodes.specs.Words.{node_at}
use Rattle.choice.proofs.Filling.{filling-on, filling-ends}
use Rattle.choice.proofs.exts_of.Goals as goal

pub loop-i-init : goal.loop-i-init
loop-i-init c = (refl, refl)

pub loop-i-preserved : goal.loop-i-preserved
loop-i-preserved c = (
  length-set c.loop-i.exts c.loop-i.i _ ∙ c.loop-i.invariant.0,
  filling-on (λ e. (node_at c.args.work.now e).ext) c.args.row.now c.loop-i.exts c.loop-i.invariant.1 (omega (arith, c.loop-i.invariant.0))
      c.loop-i-test.true (ap (λ (x : Candidate). x.ext) c.node.ensures),
)

pub returns : goal.returns
returns c = filling-ends (λ e. (node_at c.args.work.now e).ext) c.args.row.now c.loop-i.exts c.loop-i.invariant.1 (omega arith)
