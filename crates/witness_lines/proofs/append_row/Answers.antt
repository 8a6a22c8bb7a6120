-- `witness_lines::append_row` meets its contract: the word, the number and a newline. Assumes nothing.
use Rattle.witness_lines.proofs.Blocks.{row-shown}
use Rattle.witness_lines.proofs.append_row.Goals as goal

pub returns : goal.returns
returns c = row-shown c.append-first.ensures c.append_number-second.ensures c.append.ensures
