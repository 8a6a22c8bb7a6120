-- `output::put_8` meets its contract. Assumes nothing.
use mathlib.Core.Path.{◌∙◌}
use Rattle.output.proofs.Placing.{put_is}
use Rattle.output.proofs.put_8.Goals as goal

pub returns : goal.returns
returns c = c.put_u64.ensures.s_after ∙ put_is 8 c.args.out.now c.args.at c.args.v c.requires
