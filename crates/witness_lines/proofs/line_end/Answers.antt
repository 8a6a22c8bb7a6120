-- `witness_lines::line_end` meets its contract: the line ends where the next newline is found. Assumes nothing.
use Rattle.witness_lines.proofs.Lines.{line-ends}
use Rattle.witness_lines.proofs.line_end.Goals as goal

pub returns : goal.returns
returns c = line-ends c.args.text.now c.args.at c.find.result c.requires c.find.ensures.place c.find.ensures.within
