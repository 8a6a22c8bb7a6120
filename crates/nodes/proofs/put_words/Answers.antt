-- `nodes::put_words` meets its contract. Assumes nothing.
use native.Mathlib.Omega.{arith}
use Rattle.nodes.proofs.Stored.{copied-over}
use Rattle.nodes.proofs.put_words.Goals as goal

pub returns : goal.returns
returns c = copied-over c.args.work.now c.args.words.now _ c.args.at _ c.copy_from_slice.ensures.after (omega arith) c.requires
