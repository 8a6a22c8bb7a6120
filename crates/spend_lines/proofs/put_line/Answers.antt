-- `spend_lines::put_line` meets its contract: the number, then the verdict. Assumes nothing.
use Rattle.script_leaves.proofs.Laws.{then-laid}
use Rattle.spend_lines.proofs.put_line.Goals as goal

pub returns : goal.returns
returns c = then-laid c.put_decimal-to.ensures c.put_verdict.ensures
