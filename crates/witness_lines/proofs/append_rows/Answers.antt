-- `witness_lines::append_rows` meets its contract: row by row. Assumes nothing.
use Rattle.witness_lines.proofs.Blocks.{rows-shown}
use Rattle.witness_lines.proofs.append_rows.Goals as goal

pub returns : goal.returns
returns c = rows-shown c.args.t c.append_row-a.ensures c.append_row-b.ensures c.append_row-c.ensures c.append_row-d.ensures c.append_row.ensures
