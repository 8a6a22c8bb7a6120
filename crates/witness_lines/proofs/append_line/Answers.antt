-- `witness_lines::append_line` meets its contract: what is shown, then its end. Assumes nothing.
use Rattle.witness_lines.proofs.Blocks.{line-shown}
use Rattle.witness_lines.proofs.append_line.Goals as goal

pub returns : goal.returns
returns c = line-shown c.append-ending.ensures c.append_ending.ensures
