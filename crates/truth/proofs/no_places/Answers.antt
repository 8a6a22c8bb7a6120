use Rattle.truth.proofs.PlaneLaws.{planes-none}
use Rattle.truth.proofs.no_places.Goals as goal

pub returns : goal.returns
returns c = planes-none
