-- `output::put_4` meets its contract: only the lowest four bytes are written. Assumes nothing.
use mathlib.Core.Path.{◌∙◌, ap}
use lib.Seq.{sets}
use Rattle.output.proofs.Placing.{put_is, low-bytes}
use Rattle.output.proofs.put_4.Goals as goal

pub returns : goal.returns
returns c = c.put_u32.ensures.s_after ∙ put_is 4 c.args.out.now c.args.at _ (c.requires) ∙ ap (sets c.args.out.now c.args.at) (low-bytes 4 c.args.v)
