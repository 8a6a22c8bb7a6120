-- `witness_report::show` meets its contract: the line is added to a block that has room for it. Assumes nothing.
use Rattle.std.proofs.Common.{rules}
use Rattle.witness_report.proofs.Outcomes.{line-added}
use Rattle.witness_report.proofs.show.Goals as goal

pub returns : goal.returns
returns g c = line-added c.args.line.now c.args.said c.shown_from-from.ensures c.append_line-used.ensures (search rules)
