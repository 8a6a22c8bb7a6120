-- `witness_report::answer` meets its contract: by what the line says. Assumes nothing.
use Rattle.witness_report.proofs.Outcomes.{within-input, answered-input, answered-other}
use Rattle.witness_report.proofs.answer.Goals as goal

pub slice_bounds-input-count : goal.slice_bounds-input-count
slice_bounds-input-count g c = within-input c.requires.0 c.in-Some.is

pub returns-in-Some : goal.returns-in-Some
returns-in-Some g c = answered-input c.requires.0 c.in-Some.is c.input.ensures

pub returns-in-None : goal.returns-in-None
returns-in-None g c = answered-other c.requires.0 c.in-None.is
