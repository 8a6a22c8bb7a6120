use mathlib.Core.Path.{refl, ◌∙◌}
use Rattle.variables.specs.Gathering.{row_of}
use Rattle.truth.proofs.Deciding.{blocks-begin, blocks_more, blocks-stop, blocks-done}
use Rattle.truth.proofs.alike.Goals as goal

pub loop-block-init : goal.loop-block-init
loop-block-init c = (blocks-begin c.args.pol.now c.args.root c.args.tree.now (row_of c.args.t), refl)

pub block_alike-requires : goal.block_alike-requires
block_alike-requires c = (c.requires.0, (c.requires.1.0, (c.loop-block.invariant.1 ∙ c.requires.1.1.0, c.requires.1.1.1)))

pub returns-then-not-block_alike : goal.returns-then-not-block_alike
returns-then-not-block_alike c = record {
  says = λ f r x. blocks-stop c.block_alike.ensures.block_says c.if-not-block_alike.true f r;
  work_len_unchanged = c.block_alike.ensures.work_len_unchanged ∙ c.loop-block.invariant.1;
}

pub loop-block-preserved : goal.loop-block-preserved
loop-block-preserved c = (blocks_more c.loop-block.invariant.0 c.loop-block-test.true c.block_alike.ensures.block_says c.if-not-block_alike.false, c.block_alike.ensures.work_len_unchanged ∙ c.loop-block.invariant.1)

pub returns : goal.returns
returns c = record {
  says = λ f r x. blocks-done c.loop-block.invariant.0 c.loop-block-test.false c.requires.1.1.1 f r x;
  work_len_unchanged = c.loop-block.invariant.1;
}
