-- `witness_report::tell` meets its contract: what the line says, what comes of it, and its line of the report. Assumes nothing.
use Rattle.witness_report.proofs.Outcomes.{told}
use Rattle.witness_report.proofs.tell.Goals as goal

pub returns : goal.returns
returns g c = told c.read_line-said.ensures c.answer-outcome.ensures c.show-block.ensures
