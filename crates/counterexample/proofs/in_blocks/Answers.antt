-- `counterexample::in_blocks` meets its contract: what is found in a block shows a difference. Assumes nothing.
use mathlib.Core.Path.{◌∙◌}
use Rattle.counterexample.proofs.in_blocks.Goals as goal

pub in_block-requires : goal.in_block-requires
in_block-requires c = (c.requires.0, (c.requires.1.0, (c.loop-block.invariant ∙ c.requires.1.1.0, c.requires.1.1.1)))

pub loop-block-preserved : goal.loop-block-preserved
loop-block-preserved c = c.in_block.ensures.work_len_unchanged ∙ c.loop-block.invariant
