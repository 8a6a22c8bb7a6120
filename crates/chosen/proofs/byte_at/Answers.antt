-- `chosen::byte_at` meets its contract: a byte is eight bits of its word. Assumes nothing.
use mathlib.Core.Path.{sym}
use Rattle.chosen.proofs.Words.{room-byte}
use Rattle.chosen.proofs.byte_at.Goals as goal

pub returns : goal.returns
returns c = sym (room-byte c.args.work.now c.requires.0 c.args.i c.requires.1)
