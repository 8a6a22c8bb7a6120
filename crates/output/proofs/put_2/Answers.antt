-- `output::put_2` meets its contract: where both bytes are there, the number is written. Assumes nothing.
use mathlib.Core.Path.{◌∙◌}
use Rattle.output.proofs.Placing.{put_is}
use Rattle.output.proofs.put_2.Goals as goal

pub returns : goal.returns
returns c = c.put_u16.ensures.s_after ∙ put_is 2 c.args.out.now c.args.at c.args.v (c.requires)
