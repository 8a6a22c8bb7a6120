-- `spend_lines::put_count` meets its contract: the word, the number, the end of the line. Assumes nothing.
use Rattle.script_leaves.proofs.Laws.{then-laid}
use Rattle.spend_lines.proofs.put_count.Goals as goal

pub returns : goal.returns
returns c = then-laid (then-laid c.put_bytes-named.ensures c.put_decimal-numbered.ensures) c.put.ensures
